pub mod Elements
pub mod Givens
pub mod Seens
pub mod Sharings
pub mod Slotted
pub mod Wholes
