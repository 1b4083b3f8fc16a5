pub mod Anchors
pub mod Points
