pub mod Ending
pub mod Leaving
pub mod Report
pub mod Room
