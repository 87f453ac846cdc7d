pub mod Log
pub mod Readable
pub mod Feed
pub mod Tables
pub mod Search
