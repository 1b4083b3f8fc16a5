-- How many glyphs in ascending order there can be, and how many of them in a list. Assumes nothing.
use Prim.Native.Nat.{ℕ, ◌+◌, ◌*◌, ◌≤◌, ◌<◌}
use mathlib.Core.List.{List, [], ◌∷◌}
use native.Mathlib.Omega.{arith}
use lib.ListN.{length, get_or}
use Rattle.ot_layouts.specs.Coverage.{plain}
use Rattle.ot_layouts.proofs.RunCount.{many, alone, some_run, few}
use Rattle.ot_ranges.specs.Ascending.{Ascending}
use Rattle.ot_ranges.proofs.Ascending.{ascends, under}

module _ (gs : List ℕ) (a : Ascending gs) (bits : (k : ℕ) → get_or gs k 0 < 65536) where
  together : many (plain gs) + length gs ≤ 65537
  together = omega (arith, few gs 65536 (ascends gs a) (under gs 65536 bits))

  pub at_most : length gs ≤ 65536
  at_most = go gs together
    where
      go : (gs : List ℕ) → many (plain gs) + length gs ≤ 65537 → length gs ≤ 65536
      go [] h = omega arith
      go (g ∷ gs) h = omega (arith, some_run (alone g) (plain gs))

  -- all 65,536 glyphs are one run, and so are no list
  pub listed : length gs ≤ 3 * many (plain gs) → length gs < 65536
  listed h = omega (arith, together)
