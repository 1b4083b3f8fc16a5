mod Moving
pub mod Spreading
mod Joining
