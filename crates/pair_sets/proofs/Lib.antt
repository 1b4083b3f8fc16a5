pub mod Widths
pub mod Ascending
pub mod Windows
pub mod Halved
pub mod Slots
pub mod Marks
