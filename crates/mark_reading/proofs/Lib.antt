pub mod Places
pub mod Spots
pub mod Attaching
pub mod Calling
