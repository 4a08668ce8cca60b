pub mod Counts
pub mod Bodies
pub mod Check
pub mod Stored
