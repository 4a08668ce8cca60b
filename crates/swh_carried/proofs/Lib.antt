pub mod Graphs
pub mod Firsts
pub mod WayCounts
pub mod WaySteps
