pub mod Details
pub mod Grows
pub mod InTurn
pub mod Statuses
