pub mod Demands
pub mod Exactly
pub mod Calls
