pub mod Ones
pub mod Devices
