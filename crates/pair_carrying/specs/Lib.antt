pub mod Arranging
pub mod Measuring
pub mod Carrying
