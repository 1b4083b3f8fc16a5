pub mod Cuts
pub mod Ranges
pub mod Places
pub mod Measure
