-- `glyph_set::joined` meets its contract: one neighbour and the other. Assumes nothing.
use Prim.Native.Nat.{ℕ, ◌+◌}
use mathlib.Core.Path.{ap₂}
use native.Mathlib.Omega.{arith}
use Rattle.glyph_set.specs.GlyphSet.{joined}
use Rattle.glyph_set.proofs.Neighbours.{before_le, behind_le}
use Rattle.glyph_set.proofs.joined.Goals as goal

pub overflow_add-result : goal.overflow_add-result
overflow_add-result c =
    let a = c.args in
    omega (arith, c.present_before.ensures, c.present_behind.ensures, before_le a.set.now a.glyph, behind_le a.set.now a.glyph)

pub returns : goal.returns
unfolding joined
returns c = ap₂ (λ (x y : ℕ). x + y) c.present_before.ensures c.present_behind.ensures
