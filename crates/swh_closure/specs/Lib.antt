pub mod Certificate
pub mod Walk
pub mod Whole
