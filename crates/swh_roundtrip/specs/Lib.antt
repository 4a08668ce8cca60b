pub mod Commands
pub mod LoadsBack
pub mod Made
pub mod Rules
pub mod Sound
pub mod Trees
