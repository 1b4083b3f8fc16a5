-- `ot_ranges::ranges_fit` meets its contract: the ranges passed rise, and the first that does not decides. Assumes nothing.
use Prim.Native.Nat.{ℕ, ◌+◌, ◌*◌, ◌≤◌}
use mathlib.Core.Path.{◌≡◌, sym}
use mathlib.Core.List.{List}
use native.Mathlib.Omega.{arith}
use lib.ListN.{length}
use Rattle.folds.specs.Folds.{before}
use Rattle.folds.proofs.Folds.{before_none}
use Rattle.folds.proofs.Halving.{Rising, rising_none}
use Rattle.ot_layouts.specs.Coverage.{start_at, end_at}
use Rattle.ot_ranges.proofs.ranges_fit.Given as goal

-- the ranges before k rise, and the next may start at `next`
pub record Inv (part : List ℕ) (count next k : ℕ) : Type 0 where
  pub within : k ≤ count
  pub long : length part ≡ 4 + 6 * count
  pub next_is : next ≡ before (λ j. end_at part j + 1) k
  pub rising : Rising (start_at part) (end_at part) k

pub start : (part : List ℕ) (count : ℕ) → length part ≡ 4 + 6 * count → Inv part count 0 0
start part count e =
    record {
      within = omega arith;
      long = e;
      next_is = sym (before_none (λ j. end_at part j + 1));
      rising = rising_none (start_at part) (end_at part);
    }

abbrev pub invariant-loop-k : goal.invariant-loop-k
invariant-loop-k l = Inv l.part l.count l.next l.k
