-- Where a glyph is among ranges, by the ranges on either side of it. Assumes nothing.
use Rattle.std.specs.Prelude.{Some, None}
use Prim.Native.Nat.{ℕ, ◌≤◌, ◌<◌}
use mathlib.Core.Path.{◌≡◌, sym}
use mathlib.Core.Bool.{false}
use mathlib.Core.List.{List}
use mathlib.Core.Logic.{◌⊎◌, ⊎_elim}
use lib.Dec.{leb}
use borrow.Author.Tests.{le-leb, lt-leb}
use Rattle.folds.proofs.Tests.{and_first, and_second}
use Rattle.folds.proofs.First.{first_at_lem, first_none}
use Rattle.folds.proofs.Halving.{Parts, ends_below, apart}
use Rattle.ot_layouts.specs.Coverage.{start_at, end_at}
use Rattle.ot_layouts.proofs.RangesRead.{RangesRead}
use Rattle.ot_ranges.specs.Ranges.{in_range, range_of}

module _ (b : List ℕ) (n g : ℕ) where
  ends_below_lem : (k : ℕ) → end_at b k < g → in_range b g k ≡ false
  ends_below_lem k h = and_second (leb (start_at b k) g) _ (lt-leb g (end_at b k) h)

  starts_above : (k : ℕ) → g < start_at b k → in_range b g k ≡ false
  starts_above k h = and_first _ (leb g (end_at b k)) (lt-leb (start_at b k) g h)

  -- range k has it, and those before end below it
  pub range_at_lem : (k : ℕ) → k < n → ((j : ℕ) → j < k → end_at b j < g) → start_at b k ≤ g → g ≤ end_at b k → range_of b n g ≡ Some k
  range_at_lem k l below h o =
      first_at_lem (in_range b g) k n l (λ j m. ends_below_lem j (below j m))
      (rw (le-leb (start_at b k) g h, le-leb g (end_at b k) o))

  -- each range is on one side of it
  pub range_none : ((j : ℕ) → j < n → (end_at b j < g) ⊎ (g < start_at b j)) → range_of b n g ≡ None
  range_none apart = first_none (in_range b g) n (λ j l. ⊎_elim (ends_below_lem j) (starts_above j) (apart j l))

  -- where the ranges change over from those that end below the glyph, the range there has it, or none has
  module _ {k : ℕ} (r : RangesRead b n) (p : Parts (end_at b) n g k) where
    pub range_here : k < n → start_at b k ≤ g → Some k ≡ range_of b n g
    range_here l h = sym (range_at_lem k l (ends_below r.rising p) h (p.at l))

    pub range_nowhere : (k < n → g < start_at b k) → None ≡ range_of b n g
    range_nowhere h = sym (range_none (apart r.rising p h))
