pub mod Naming
pub mod FolderNaming
