pub mod UpTo
pub mod RowSums
pub mod Rows
pub mod Kept
pub mod Entries
