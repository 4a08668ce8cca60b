pub mod CarriedNames
pub mod Cooks
pub mod Told
pub mod Gets
pub mod Loads
pub mod Unique
