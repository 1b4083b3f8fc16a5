pub mod Bytes
mod Arrays
