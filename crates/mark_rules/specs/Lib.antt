pub mod Rules
pub mod Table
pub mod Written
pub mod Attachments
pub mod Calls
pub mod Reads
pub mod Computing
pub mod Renumbered
