pub mod Apart
pub mod Entering
pub mod Unled
pub mod NewLookups
pub mod OrdersThen
pub mod LookupsStay
