pub mod Parting
pub mod Written
pub mod Finishing
pub mod Callers
