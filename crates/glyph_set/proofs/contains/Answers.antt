-- `glyph_set::contains` meets its contract: the byte is shifted down and masked to one bit. Assumes nothing.
use Prim.Native.Nat.{ℕ, ◌/◌, ◌%◌, ◌^◌}
use mathlib.Core.Path.{ap}
use lib.Dec.{eqb}
use lib.ListN.{get_or}
use Rattle.folds.proofs.Bits.{masked_lowest}
use Rattle.glyph_set.specs.GlyphSet.{member}
use Rattle.glyph_set.proofs.contains.Goals as goal

pub returns : goal.returns
unfolding member
returns c = let a = c.args in rw c.from-at.ensures (ap (λ (n : ℕ). eqb n 1) (masked_lowest (get_or a.set.now (a.glyph / 8) 0 / 2 ^ (a.glyph % 8))))
