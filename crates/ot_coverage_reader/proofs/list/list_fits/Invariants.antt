-- `list::list_fits` meets its contract. In the loop the glyphs passed rise, and `next` is one above the last of them. Assumes nothing.
use mathlib.Core.Path.{◌≡◌}
use mathlib.Core.List.{List}
use Prim.Native.Nat.{ℕ, ◌+◌, ◌*◌, ◌≤◌}
use lib.ListN.{length}
use Rattle.folds.specs.Folds.{before}
use Rattle.folds.proofs.Halving.{Rising}
use Rattle.ot_layouts.specs.Coverage.{glyph_at}
use Rattle.ot_coverage_reader.proofs.list.list_fits.Given as goal

pub record Inv (part : List ℕ) (count next k : ℕ) : Type 0 where
  pub long : length part ≡ 4 + 2 * count
  pub within : k ≤ count
  pub next_is : next ≡ before (λ j. glyph_at part j + 1) k
  pub rising : Rising (glyph_at part) (glyph_at part) k

abbrev pub invariant-loop-k : goal.invariant-loop-k
invariant-loop-k l = Inv l.part l.count l.next l.k
