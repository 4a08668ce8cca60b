pub mod Happened
pub mod Replay
