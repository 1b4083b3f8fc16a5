pub mod ByTable
mod Counting
mod StillOpen
mod LinksAfter
mod StoreAfter
