pub mod Entries
pub mod Estimates
