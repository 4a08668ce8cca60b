pub mod Plan
pub mod Batches
pub mod Planned
