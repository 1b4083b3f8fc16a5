pub mod Place
pub mod Ascending
