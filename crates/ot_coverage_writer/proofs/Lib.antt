pub mod Counts
pub mod Tails
pub mod RoundTrip
