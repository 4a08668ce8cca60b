pub mod Files
pub mod Standing
pub mod Worlds
pub mod Steps
pub mod Runs
pub mod Caught
