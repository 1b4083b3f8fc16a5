pub mod Figures
pub mod Edges
