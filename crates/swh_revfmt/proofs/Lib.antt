pub mod LinePlaces
pub mod Lines
pub mod Plains
pub mod Rests
pub mod TypePlaces
pub mod Faults
