pub mod Marks
pub mod Planned
pub mod Objects
