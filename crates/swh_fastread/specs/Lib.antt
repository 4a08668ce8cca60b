pub mod Tail
pub mod Steps
pub mod Standing
