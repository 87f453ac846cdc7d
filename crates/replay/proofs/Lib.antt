pub mod Answering
pub mod Laws
pub mod Marking
pub mod Placing
pub mod Running
pub mod Serving
