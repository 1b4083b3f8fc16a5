pub mod Filled
mod Fields
