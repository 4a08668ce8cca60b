pub mod Told
pub mod Statuses
pub mod Owned
pub mod Opened
