pub mod Cases
pub mod KnownSettings
pub mod Pinned
pub mod Room
pub mod Scratch
