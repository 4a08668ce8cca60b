pub mod Numbers
pub mod Targets
pub mod Fronts
pub mod Follows
pub mod Exact
pub mod Texts
