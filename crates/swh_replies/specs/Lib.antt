pub mod Shape
pub mod Json
pub mod Known
pub mod Steps
pub mod Answers
pub mod Writes
