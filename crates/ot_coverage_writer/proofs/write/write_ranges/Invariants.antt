-- `write::write_ranges` meets its contract. In the loop the ranges written and those of the glyphs from `from` on are all, and the glyphs from `from` to `k` follow one another. Assumes nothing.
use mathlib.Core.Path.{◌≡◌}
use mathlib.Core.List.{List, ◌++◌}
use Prim.Native.Nat.{ℕ, ◌+◌, ◌*◌, ◌≤◌, ◌<◌}
use lib.ListN.{length, get_or}
use Rattle.folds.specs.Lists.{put}
use Rattle.ot_layouts.specs.Coverage.{runs, plain, cover_ranges}
use Rattle.ot_layouts.proofs.Runs.{starting_at}
use Rattle.ot_coverage_writer.proofs.Tails.{tail}
use Rattle.ot_coverage_writer.proofs.write.write_ranges.Given as goal

pub record Inv (g out₀ out : List ℕ) (at end from k : ℕ) : Type 0 where
  pub room : at + 6 * length (runs (plain g)) ≤ length out₀
  pub within : k ≤ length g
  pub from_le : from ≤ k
  pub same : length out ≡ length out₀
  pub written : List ℕ
  pub is : out ≡ put out₀ at written
  pub end_is : end ≡ at + length written
  pub rest : written ++ cover_ranges from (tail g from) ≡ cover_ranges 0 (runs (plain g))
  pub begun : tail g from ≡ starting_at (get_or g from 0) (tail g k)
  pub level : k < length g → get_or g k 0 + from ≡ get_or g from 0 + k

abbrev pub invariant-loop-k : goal.invariant-loop-k
invariant-loop-k l = Inv l.glyphs l.initial.out l.out (l.at + 4) l.end l.from l.k
