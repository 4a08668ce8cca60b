mod Ends
mod Fields
mod Follow
mod Heads
mod Pieces
mod Stand
mod Turns
mod Unique
