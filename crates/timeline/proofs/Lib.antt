pub mod Drawing
pub mod Laws
pub mod Lines
pub mod Pages
pub mod Pieces
pub mod Rows
pub mod Spanning
