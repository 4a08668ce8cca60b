pub mod TextPuts
pub mod TurnLists
pub mod Replies
pub mod Heard
pub mod Readings
pub mod Connections
