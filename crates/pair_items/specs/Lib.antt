pub mod Measuring
pub mod Filled
