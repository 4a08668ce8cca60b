pub mod Back
pub mod Cook
pub mod FolderBack
