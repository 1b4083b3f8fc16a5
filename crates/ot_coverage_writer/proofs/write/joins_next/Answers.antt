-- `write::joins_next` meets its contract: past the end no glyph joins. Assumes nothing.
use borrow.Author.Tests.{lt-ltb, le-ltb}
use Rattle.ot_coverage_writer.specs.Joins.{joins_next}
use Rattle.ot_coverage_writer.proofs.write.joins_next.Goals as goal

pub returns-then-k-glyphs : goal.returns-then-k-glyphs
unfolding joins_next
returns-then-k-glyphs c = rw (c.from.ensures, c.from-then-k-glyphs.ensures, lt-ltb _ _ c.if-k-glyphs.true)

pub returns-else-k-glyphs : goal.returns-else-k-glyphs
unfolding joins_next
returns-else-k-glyphs c = rw (le-ltb _ _ c.if-k-glyphs.false)
