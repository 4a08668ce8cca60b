pub mod Fault
pub mod Plain
pub mod PlainReading
pub mod Reading
