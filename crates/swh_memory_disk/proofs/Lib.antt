pub mod InPlaces
pub mod PastLaws
pub mod PastSteps
pub mod RangeLaws
pub mod RecordLaws
