pub mod Copying
pub mod GivenOut
pub mod Handing
mod Numbering
pub mod Split
