pub mod Copies
pub mod Entering
pub mod Redirecting
