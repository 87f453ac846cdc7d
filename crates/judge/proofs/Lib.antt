pub mod Answering
pub mod Deciding
pub mod Fating
pub mod Laws
