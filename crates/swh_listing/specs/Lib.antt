pub mod Fault
pub mod Line
pub mod Listing
pub mod Reading
