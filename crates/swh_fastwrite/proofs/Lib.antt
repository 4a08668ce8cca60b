pub mod Modes
pub mod Quotes
pub mod Pieces
