pub mod InPlace
pub mod Kept
pub mod Memory
pub mod Moments
pub mod Past
pub mod Record
pub use Rattle.swh_memory_failures.specs.Answers
pub use Rattle.swh_memory_failures.specs.Tally
