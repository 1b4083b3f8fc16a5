pub mod Counted
pub mod Listing
pub mod Sizing
pub mod Measuring
pub mod Copied
pub mod Writing
pub mod Looping
