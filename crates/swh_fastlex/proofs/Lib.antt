pub mod Components
pub mod DelimitedLines
pub mod Pieces
pub mod Runs
pub mod Windows
