pub mod Orders
pub mod Preceded
pub mod Stops
pub mod Trips
pub mod Walks
