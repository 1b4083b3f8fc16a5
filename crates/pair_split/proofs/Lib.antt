mod SplitAt
pub mod Fronts
