pub mod Children
pub mod Blocks
