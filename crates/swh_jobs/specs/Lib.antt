pub mod Answers
pub mod Job
pub mod JobFile
pub mod Reading
pub mod Spelled
