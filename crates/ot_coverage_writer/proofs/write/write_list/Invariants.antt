-- `write::write_list` meets its contract. In the loop the first `k` glyphs stand behind the head. Assumes nothing.
use mathlib.Core.Path.{◌≡◌}
use mathlib.Core.List.{List}
use Prim.Native.Nat.{ℕ, ◌+◌, ◌*◌, ◌≤◌}
use lib.ListN.{length, take}
use Rattle.folds.specs.Lists.{put}
use Rattle.ot_layouts.specs.Numbers.{words}
use Rattle.ot_coverage_writer.proofs.write.write_list.Given as goal

pub record Inv (g out₀ out : List ℕ) (first k : ℕ) : Type 0 where
  pub room : first + 2 * length g ≤ length out₀
  pub within : k ≤ length g
  pub same : length out ≡ length out₀
  pub is : out ≡ put out₀ first (words (take k g))

abbrev pub invariant-loop-k : goal.invariant-loop-k
invariant-loop-k l = Inv l.glyphs l.initial.out l.out l.first l.k
