pub mod Looking
pub mod Deciding
pub mod Planning
