mod ClassRows
pub mod Callers
