pub mod Refusing
pub mod Holding
pub mod Feeding
pub mod Bounds
pub mod Bytes
pub mod Laws
