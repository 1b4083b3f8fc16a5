pub mod Kept
pub mod Marks
pub mod Compacted
pub mod Calls
