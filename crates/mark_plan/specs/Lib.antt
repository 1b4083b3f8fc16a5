pub mod Cutting
pub mod Decided
