pub mod Counts
pub mod Held
pub mod Quoted
pub mod Sinks
pub mod Text
