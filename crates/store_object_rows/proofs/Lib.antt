pub mod Writing
pub mod Rounds
pub mod Behind
