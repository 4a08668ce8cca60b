pub mod Answers
pub mod Tally
