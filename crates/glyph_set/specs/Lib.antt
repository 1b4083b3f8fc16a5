pub mod GlyphSet
pub mod Words
