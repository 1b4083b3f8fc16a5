pub mod Checked
pub mod Opens
pub mod Called
