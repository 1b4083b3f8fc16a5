pub mod ClassParts
