pub mod Absent
pub mod Trees
pub mod Yards
