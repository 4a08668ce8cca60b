pub mod Faults
pub mod Lines
pub mod Modes
pub mod Readings
