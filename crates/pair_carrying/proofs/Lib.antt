mod Keeping
pub mod Counting
mod StoreAfter
mod ByTable
