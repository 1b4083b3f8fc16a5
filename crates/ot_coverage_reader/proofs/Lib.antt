pub mod Headers
pub mod Places
