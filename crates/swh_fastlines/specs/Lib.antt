pub mod Limit
pub mod Reading
pub mod ItemLine
