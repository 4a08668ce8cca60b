pub mod Asks
pub mod Calls
pub mod Causes
pub mod Desk
pub mod Pieces
pub mod Puts
pub mod Served
pub mod Turns
