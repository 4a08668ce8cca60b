pub mod Cycle
pub mod Places
pub mod Postorder
pub mod Walk
