pub mod Refusing
pub mod Fitting
pub mod Alone
pub mod Lawful
pub mod Leaving
pub mod Loading
