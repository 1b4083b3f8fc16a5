pub mod Counting
pub mod Taking
pub mod Recounting
pub mod Forgetting
pub mod ByClass
pub mod Estimates
