pub mod Committing
pub mod Loads
pub mod Input
pub mod Progress
pub mod Loaded
pub mod Sourced
pub mod Reading
pub mod Giving
