pub mod Numbering
pub mod Placing
pub mod Packing
pub mod Sifting
pub mod Roots
pub mod Wiping
pub mod Carried
