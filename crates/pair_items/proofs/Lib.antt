pub mod ItemSizes
pub mod Turns
pub mod Callers
