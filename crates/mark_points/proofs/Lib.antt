pub mod Walking
pub mod ClassLinks
pub mod MarkCounts
pub mod Turns
