pub mod Live
pub mod Moved
pub mod Opened
pub mod Working
