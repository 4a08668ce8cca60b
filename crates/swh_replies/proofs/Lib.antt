pub mod Shapes
pub mod Lasts
pub mod Values
pub mod Names
pub mod IdTexts
pub mod Unique
pub mod Listed
pub mod Shown
