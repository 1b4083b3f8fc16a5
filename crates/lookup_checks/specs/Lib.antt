pub mod Objects
pub mod Marks
pub mod Rows
pub mod Ordered
