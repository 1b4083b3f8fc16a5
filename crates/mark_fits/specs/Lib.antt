pub mod Together
pub mod Guaranteed
