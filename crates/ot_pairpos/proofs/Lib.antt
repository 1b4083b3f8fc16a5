pub mod Opening
pub mod Slots
pub mod Layouts
