pub mod Cuts
pub mod Exact
pub mod Follows
pub mod Lengths
pub mod Lines
pub mod Origins
