pub mod Pieces
pub mod Places
pub mod Rows
pub mod Slots
