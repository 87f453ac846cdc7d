pub mod Answer
pub mod Session
pub mod Archived
