pub mod Fault
pub mod Grammar
pub mod Row
pub mod Word
pub mod Givable
