pub mod Levels
pub mod Steps
pub mod Weights
pub mod Preceding
pub mod Trees
pub mod Rows
pub mod Walks
