mod SplitAt
mod Fronts
