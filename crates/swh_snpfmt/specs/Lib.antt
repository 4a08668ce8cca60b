pub mod Branches
pub mod Fault
pub mod Reading
