pub mod Planned
pub mod Objects
