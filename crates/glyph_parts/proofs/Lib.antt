pub mod Parts
pub mod Linking
pub mod Choices
pub mod Covered
