pub mod BatchLemmas
pub mod EncodeLemmas
pub mod PlanLemmas
pub mod SnapshotLemmas
