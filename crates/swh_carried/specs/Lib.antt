pub mod Cause
pub mod Rules
pub mod Uncarried
pub mod Ways
pub mod Words
