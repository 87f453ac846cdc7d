pub mod Archive
pub mod Trade
