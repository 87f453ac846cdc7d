pub mod Number
pub mod Refusal
pub mod Frame
pub mod Record
pub mod Cursor
