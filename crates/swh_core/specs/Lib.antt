pub mod World
pub mod Step
pub mod Kept
pub mod Answers
