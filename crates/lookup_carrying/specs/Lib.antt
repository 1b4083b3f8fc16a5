pub mod Lookups
pub mod Measuring
pub mod Carrying
