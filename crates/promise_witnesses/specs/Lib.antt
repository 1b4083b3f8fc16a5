pub mod Builds
pub mod CompactBuilds
