pub mod Commands
pub mod Definition
pub mod Spelling
pub mod Words
