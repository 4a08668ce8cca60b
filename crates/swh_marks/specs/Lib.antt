pub mod Marks
pub mod Others
