pub mod Counts
pub mod Examples
pub mod Lines
pub mod Listing
pub mod Reading
pub mod Reporting
