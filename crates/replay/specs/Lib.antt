pub mod Replay
pub mod Trial
