pub mod Deciding
pub mod Refusals
pub mod Called
