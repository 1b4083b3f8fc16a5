mod Beside
pub mod Planning
mod OldTable
mod Lengths
mod Tables
mod Parts
mod Looping
pub mod Stored
