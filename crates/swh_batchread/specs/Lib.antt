pub mod Batch
pub mod BatchFault
pub mod Failing
pub mod Giving
pub mod Parts
pub mod RefSteps
pub mod Refs
pub mod RefsFault
