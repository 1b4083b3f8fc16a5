pub mod Entries
pub mod Estimates
pub mod Pinned
