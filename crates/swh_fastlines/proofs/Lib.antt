pub mod SetFronts
pub mod ChangeLines
pub mod RefRuns
pub mod Promises
pub mod DataOpened
pub mod LongRefs
pub mod WordLimits
pub mod ItemLines
