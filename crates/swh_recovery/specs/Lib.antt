pub mod Fields
pub mod LedgerHarm
pub mod StoreHarm
pub mod Harms
pub mod Reading
pub mod Records
pub mod Answers
pub mod Pieces
