pub mod Bound
pub mod Directory
pub mod Grove
pub mod Held
pub mod Listing
pub mod Makes
pub mod Objects
