-- `glyph_set::present_before` meets its contract: 0 has none before it, and any other glyph the one that is one less. Assumes nothing.
use mathlib.Core.Path.{sym, ◌∙◌}
use native.Mathlib.Omega.{arith}
use Rattle.glyph_set.proofs.Neighbours.{before-first, before_at}
use Rattle.glyph_set.proofs.present_before.Goals as goal

pub returns-then-glyph-eq0 : goal.returns-then-glyph-eq0
returns-then-glyph-eq0 c = let a = c.args in sym (before-first a.set.now a.glyph (omega arith))

pub returns : goal.returns
returns c = let a = c.args in c.present.ensures ∙ sym (before_at a.set.now a.glyph (omega arith))
