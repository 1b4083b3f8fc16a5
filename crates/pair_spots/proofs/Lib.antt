mod Widths
pub mod Spots
mod Finding
