pub mod Sharing
pub mod Shared
pub mod Faulty
