pub mod PieceLemmas
pub mod PlaceLemmas
pub mod SlotLemmas
pub mod StandLemmas
