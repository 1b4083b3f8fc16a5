-- Scratch that is not too short, as numbers. Assumes nothing.
use Prim.Native.Nat.{ℕ, ◌*◌, ◌≤◌}
use mathlib.Core.Path.{◌≡◌}
use mathlib.Core.Bool.{false}
use lib.Dec.{ltb}
use borrow.Author.Tests.{ltb-false}
use Rattle.folds.proofs.Tests.{or_none}
use Rattle.call_rules.specs.declared.Lengths.{Lengths}
use Rattle.call_rules.specs.Scratch.{lengths_short}

-- 6 does not apply to a store of k objects and a table of g covered glyphs and i items
pub record LongEnough (n : Lengths) (k g i : ℕ) : Type 0 where
  pub walk : 2 * k ≤ n.walk
  pub set : 8192 ≤ n.glyph_set
  pub glyphs : g ≤ n.glyphs
  pub classes : g ≤ n.classes
  pub cuts : i ≤ n.cuts

pub long_enough : (n : Lengths) (k g i : ℕ) → lengths_short n k g i ≡ false → LongEnough n k g i
unfolding lengths_short
long_enough n k g i h =
    let (but-cuts, cuts) = or_none _ (ltb n.cuts i) h in
    let (but-classes, classes) = or_none _ (ltb n.classes g) but-cuts in
    let (but-glyphs, glyphs) = or_none _ (ltb n.glyphs g) but-classes in
    let (walk, set) = or_none (ltb n.walk (2 * k)) (ltb n.glyph_set 8192) but-glyphs in
    record {
      walk = ltb-false n.walk (2 * k) walk;
      set = ltb-false n.glyph_set 8192 set;
      glyphs = ltb-false n.glyphs g glyphs;
      classes = ltb-false n.classes g classes;
      cuts = ltb-false n.cuts i cuts;
    }
