pub mod Core
pub mod Front
pub mod Number
pub mod Text
pub mod Qualifier
pub mod Reading
pub mod Printed
