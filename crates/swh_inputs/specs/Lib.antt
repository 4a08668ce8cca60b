pub mod Batching
pub mod Input
pub mod Opening
pub mod Parts
pub mod Reading
pub mod Streaming
