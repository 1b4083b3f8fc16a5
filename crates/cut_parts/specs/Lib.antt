pub mod Tables
pub mod Order
