pub mod Answers
pub mod Held
pub mod Matching
pub mod Returns
pub mod Reaches
pub mod View
