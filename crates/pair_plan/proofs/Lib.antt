pub mod Looking
pub mod Gathering
pub mod Fronting
pub mod Planning
pub mod Deciding
pub mod Counting
