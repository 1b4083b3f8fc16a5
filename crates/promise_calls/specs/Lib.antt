pub mod Unchanged
pub mod Given
pub mod Keeps
pub mod Exits
pub mod Resulting
