pub mod OfPairs
pub mod OfMarks
