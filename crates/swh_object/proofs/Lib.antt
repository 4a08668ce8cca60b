pub mod Gathered
pub mod Refused
