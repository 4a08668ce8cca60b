pub mod Modes
pub mod Texts
pub mod Fronts
pub mod Exact
pub mod Follows
pub mod Places
