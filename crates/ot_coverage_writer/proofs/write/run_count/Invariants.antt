-- `write::run_count` meets its contract. In the loop the runs counted and those from glyph `k` on are all. Assumes nothing.
use mathlib.Core.Path.{◌≡◌}
use mathlib.Core.List.{List}
use Prim.Native.Nat.{ℕ, ◌+◌, ◌≤◌}
use lib.ListN.{length}
use Rattle.ot_layouts.specs.Coverage.{runs, plain}
use Rattle.ot_coverage_writer.proofs.Tails.{tail}
use Rattle.ot_coverage_writer.proofs.write.run_count.Given as goal

pub record Inv (g : List ℕ) (count k : ℕ) : Type 0 where
  pub within : k ≤ length g
  pub few : count ≤ k
  pub is : count + length (tail g k) ≡ length (runs (plain g))

abbrev pub invariant-loop-k : goal.invariant-loop-k
invariant-loop-k l = Inv l.glyphs l.count l.k
