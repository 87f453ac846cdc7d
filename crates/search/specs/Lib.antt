pub mod Gaps
pub mod Bounds
pub mod Searching
pub mod Order
