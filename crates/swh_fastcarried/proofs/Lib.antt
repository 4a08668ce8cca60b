pub mod FirstRules
pub mod FromEnd
pub mod OddObjects
pub mod Ones
pub mod OwnBranches
pub mod Reaching
pub mod RevisionRoots
