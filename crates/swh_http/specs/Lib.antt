pub mod Field
pub mod Framed
pub mod HeadState
pub mod Reply
pub mod Turn
pub mod Wire
