pub mod Answers
pub mod Settings
pub mod Scratch
pub mod Needs
pub mod Outcomes
pub mod Moments
