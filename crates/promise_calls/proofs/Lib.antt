pub mod Settled
pub mod Given
pub mod Unique
pub mod Keeps
pub mod Asked
