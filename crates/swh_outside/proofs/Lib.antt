pub mod Images
pub mod Plans
pub mod Numbered
pub mod FirstsLaws
pub mod CountLaws
