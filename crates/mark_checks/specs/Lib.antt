pub mod Opens
pub mod Checked
pub mod Called
