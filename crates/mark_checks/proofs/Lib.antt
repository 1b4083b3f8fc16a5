pub mod Answering
pub mod Parts
pub mod Arrays
pub mod Deciding
pub mod Opened
pub mod AtSlots
pub mod Calling
