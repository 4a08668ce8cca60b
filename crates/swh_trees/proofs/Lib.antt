pub mod Directories
pub mod Listings
pub mod Parts
pub mod Counts
pub mod Bounds
pub mod Namings
