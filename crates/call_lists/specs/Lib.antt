pub mod Handed
pub mod Split
