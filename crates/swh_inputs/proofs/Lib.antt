pub mod Batchings
pub mod Founds
pub mod Gives
pub mod OneInput
pub mod Streamings
