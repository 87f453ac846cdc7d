pub mod Buffer
pub mod Output
