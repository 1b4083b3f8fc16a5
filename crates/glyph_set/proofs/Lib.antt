pub mod Marks
pub mod Neighbours
pub mod Members
pub mod Emptied
pub mod WordBits
pub mod WordRuns
