pub mod HeldToACall
pub mod CallsThatSplit
pub mod UselessBuilds
pub mod UselessMarkBuilds
pub mod UselessCompactions
