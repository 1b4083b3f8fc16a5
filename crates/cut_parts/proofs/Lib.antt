pub mod Sifting
pub mod Parting
pub mod TableParts
mod Ordering
pub mod Keys
pub mod Arranging
