pub mod Page
pub mod Runs
pub mod Spans
