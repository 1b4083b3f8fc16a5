pub mod FewestCuts
pub mod PartRule
pub mod AgainUncut
pub mod WholeFits
pub mod SetsFit
pub mod RowsFit
pub mod Pinned
