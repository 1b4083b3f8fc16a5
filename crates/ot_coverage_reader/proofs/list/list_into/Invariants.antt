-- `list::list_into` meets its contract: one glyph is written a turn. Assumes nothing.
use mathlib.Core.List.{List}
use Prim.Native.Nat.{ℕ, ◌+◌, ◌≤◌}
use lib.ListN.{length}
use Rattle.folds.proofs.Writing.{Writing}
use Rattle.ot_layouts.specs.Coverage.{glyph_at}
use Rattle.ot_layouts.proofs.CoverageRead.{Listed}
use Rattle.ot_coverage_reader.proofs.list.list_into.Given as goal

pub record Inv (part : List ℕ) (count : ℕ) (out₀ out : List ℕ) (k : ℕ) : Type 0 where
  pub listed : Listed part count
  pub room : 0 + count ≤ length out₀
  pub writing : Writing (glyph_at part) out₀ 0 count out k

abbrev pub invariant-loop-k : goal.invariant-loop-k
invariant-loop-k l = Inv l.part l.count l.initial.out l.out l.k
