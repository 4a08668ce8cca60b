pub mod Batches
pub mod Escapes
pub mod Later
pub mod Leaves
pub mod Marks
pub mod Missing
pub mod Room
mod Outcomes
mod Streams
mod Wholes
