pub mod Session
pub mod Course
