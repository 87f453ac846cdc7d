pub mod Laws
pub mod Chains
