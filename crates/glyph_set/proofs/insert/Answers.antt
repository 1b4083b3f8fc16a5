-- `glyph_set::insert` meets its contract: a one is shifted up to the glyph's bit and or-ed to its byte. Assumes nothing.
use Rattle.glyph_set.proofs.Marks.{mark_shifted}
use Rattle.glyph_set.proofs.insert.Goals as goal

pub returns : goal.returns
returns c = rw c.from-at.ensures (mark_shifted c.args.set.now c.args.glyph)
