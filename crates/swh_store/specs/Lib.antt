pub mod Stored
pub mod Entries
pub mod Adding
pub mod Places
pub mod Front
