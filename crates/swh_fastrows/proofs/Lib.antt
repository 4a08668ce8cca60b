pub mod Joins
pub mod HeldLines
pub mod CountedData
pub mod NextLines
pub mod DelimitedData
pub mod Fitting
pub mod Failings
