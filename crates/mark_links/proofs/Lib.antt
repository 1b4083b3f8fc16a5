pub mod Slots
pub mod Bases
pub mod Tables
pub mod NewTables
pub mod Whole
pub mod SameLinks
pub mod Finishing
