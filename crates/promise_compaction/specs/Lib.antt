pub mod Kept
pub mod Rests
pub mod Readings
pub mod NextSplits
pub mod Calls
pub mod Exits
