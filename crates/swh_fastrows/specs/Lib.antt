pub mod Explains
pub mod Held
pub mod Outside
pub mod Places
pub mod ReadOn
pub mod Within
pub mod Outcome
pub mod Failing
