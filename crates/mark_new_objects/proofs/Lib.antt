mod Marks
mod Planning
mod Lengths
mod Looping
pub mod Stored
