pub mod Marked
pub mod OtherLemmas
