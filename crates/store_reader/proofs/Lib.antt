pub mod Checks
pub mod Bytes
pub mod Rows
mod Keys
pub mod AtSlots
pub mod Children
