-- `in_ranges::ranges_into` meets its contract. In the loop the glyphs of the first `k` ranges stand at the front of `out`, up to `at`. Assumes nothing.
use mathlib.Core.Path.{◌≡◌}
use mathlib.Core.List.{List}
use Prim.Native.Nat.{ℕ, ◌≤◌}
use lib.ListN.{length}
use Rattle.folds.specs.Folds.{flat, sum}
use Rattle.folds.specs.Lists.{put}
use Rattle.ot_layouts.specs.Coverage.{size_at}
use Rattle.ot_layouts.proofs.CoverageRead.{range_at, Ranged}
use Rattle.ot_coverage_reader.proofs.in_ranges.ranges_into.Given as goal

pub record Inv (part : List ℕ) (count : ℕ) (out₀ out : List ℕ) (at k : ℕ) : Type 0 where
  pub ranged : Ranged part count
  pub room : sum (size_at part) count ≤ length out₀
  pub within : k ≤ count
  pub same : length out ≡ length out₀
  pub at-is : at ≡ sum (size_at part) k
  pub is : out ≡ put out₀ 0 (flat (range_at part) k)

abbrev pub invariant-loop-k : goal.invariant-loop-k
invariant-loop-k l = Inv l.part l.count l.initial.out l.out l.at l.k
