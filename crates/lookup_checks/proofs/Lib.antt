pub mod Leading
pub mod Objects
pub mod OneMark
pub mod Looking
pub mod Ordering
pub mod Choosing
pub mod Listing
