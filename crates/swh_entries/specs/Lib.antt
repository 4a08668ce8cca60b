pub mod Forms
pub mod Gaps
pub mod Keys
pub mod Listed
pub mod Named
pub mod Packing
pub mod Spans
