pub mod Allowing
pub mod Applying
pub mod Batches
pub mod Calls
pub mod Leaving
pub mod Loads
