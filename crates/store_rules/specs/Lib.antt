pub mod Store
pub mod Reach
pub mod Appended
pub mod InOrder
pub mod Header
pub mod SlotLinks
pub mod Moments
