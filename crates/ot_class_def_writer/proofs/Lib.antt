pub mod Entries
pub mod Rest
pub mod Ends
pub mod Heads
pub mod Written
pub mod RoundTrip
