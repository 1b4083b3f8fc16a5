pub mod FewestCuts
pub mod Resulting
pub mod AgainUncut
pub mod MarksFit
pub mod Pinned
