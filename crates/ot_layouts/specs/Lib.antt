pub mod Numbers
pub mod Values
pub mod Coverage
pub mod ClassDef
pub mod PairPos
pub mod MarkBasePos
pub mod Lookup
