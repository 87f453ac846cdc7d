pub mod Projection
pub mod Outcome
pub mod Marks
pub mod Listed
pub mod Copies
