-- `in_ranges::indices_fit` meets its contract. In the loop `total` is how many glyphs the ranges passed have, and those are numbered right. Assumes nothing.
use mathlib.Core.Path.{◌≡◌}
use mathlib.Core.List.{List}
use Prim.Native.Nat.{ℕ, ◌≤◌}
use Rattle.folds.specs.Folds.{sum}
use Rattle.ot_layouts.specs.Coverage.{size_at}
use Rattle.ot_layouts.proofs.RangesRead.{RangesRead}
use Rattle.ot_layouts.proofs.CoverageRead.{Indexed}
use Rattle.ot_coverage_reader.proofs.in_ranges.indices_fit.Given as goal

pub record Inv (part : List ℕ) (count total k : ℕ) : Type 0 where
  pub read : RangesRead part count
  pub within : k ≤ count
  pub total_is : total ≡ sum (size_at part) k
  pub most : total ≤ 65536
  pub index : Indexed part k

abbrev pub invariant-loop-k : goal.invariant-loop-k
invariant-loop-k l = Inv l.part l.count l.total l.k
