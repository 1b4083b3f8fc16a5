pub mod Copies
pub mod Splitting
