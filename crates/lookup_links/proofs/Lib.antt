pub mod BySlots
pub mod Rows
pub mod Lookup
pub mod Entering
pub mod Redirecting
pub mod Unled
mod Reordering
