pub mod Laws
pub mod SessionLaws
pub mod Archived
