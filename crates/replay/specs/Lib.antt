pub mod Entry
pub mod Replay
