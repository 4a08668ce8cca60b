mod JobLines
mod Loads
mod Stopped
mod Walks
