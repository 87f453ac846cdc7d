pub mod Report
pub mod Run
pub mod Writing
