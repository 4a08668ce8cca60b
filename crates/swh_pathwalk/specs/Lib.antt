pub mod Held
pub mod Tree
pub mod Walk
pub mod Weight
