pub mod Order
pub mod Refusals
pub mod Walks
pub mod Wholes
