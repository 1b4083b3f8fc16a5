-- `glyph_set::clear_byte` meets its contract: one byte is stored. Assumes nothing.
use Rattle.glyph_set.specs.GlyphSet.{blank}
use Rattle.glyph_set.proofs.clear_byte.Goals as goal

pub returns : goal.returns
unfolding blank
returns c = rw c.from-at.ensures
