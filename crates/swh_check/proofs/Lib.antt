pub mod FullMarks
pub mod VisitCounts
pub mod BodyFaults
pub mod BodyCounts
