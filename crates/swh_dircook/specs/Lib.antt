pub mod Cook
pub mod Listing
pub mod Made
pub mod Names
pub mod Rules
pub mod Weights
