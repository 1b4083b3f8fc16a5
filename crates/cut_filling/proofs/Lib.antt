pub mod Weighing
pub mod Turns
