pub mod Commands
pub mod Definitions
pub mod Flags
pub mod Spelling
pub mod Subcommands
pub mod Values
