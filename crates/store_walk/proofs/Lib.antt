pub mod Ends
pub mod Stack
pub mod Turns
pub mod Marks
pub mod Grown
pub mod Items
pub mod Cycles
