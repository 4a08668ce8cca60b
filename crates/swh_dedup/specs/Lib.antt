pub mod Giving
pub mod Making
pub mod Seen
pub mod Whole
