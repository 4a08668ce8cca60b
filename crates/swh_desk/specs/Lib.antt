pub mod Body
pub mod Grown
pub mod Keeper
pub mod Lawful
pub mod Links
pub mod Outcome
pub mod Posted
