pub mod Pattern
pub mod Signs
pub mod Blocked
pub mod Chains
pub mod Finding
pub mod Views
