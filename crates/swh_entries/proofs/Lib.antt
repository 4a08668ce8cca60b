pub mod Packings
pub mod Fronts
pub mod Indexes
