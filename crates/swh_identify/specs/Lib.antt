pub mod IdentifyCommand
pub mod IdentifyFolderCommand
