pub mod IndexLemmas
pub mod AddingLemmas
pub mod Fronts
pub mod PlaceLemmas
pub mod KeyLemmas
