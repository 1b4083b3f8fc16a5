-- `glyph_set::present_behind` meets its contract: 65,535 has none behind it, and any other glyph the one that is one more. Assumes nothing.
use mathlib.Core.Path.{sym, ◌∙◌}
use native.Mathlib.Omega.{arith}
use Rattle.glyph_set.proofs.Neighbours.{behind_at, behind_last}
use Rattle.glyph_set.proofs.present_behind.Goals as goal

pub returns-then-glyph-eq65535 : goal.returns-then-glyph-eq65535
returns-then-glyph-eq65535 c = let a = c.args in sym (behind_last a.set.now a.glyph (omega arith))

pub returns : goal.returns
returns c = let a = c.args in c.present.ensures ∙ sym (behind_at a.set.now a.glyph (omega arith))
