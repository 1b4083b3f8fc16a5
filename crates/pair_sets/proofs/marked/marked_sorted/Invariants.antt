-- `pair_sets::marked::marked_sorted` meets its contract: the objects below `i` are sorted sets or have no mark. Assumes nothing.
use Prim.Native.Nat.{ℕ}
use mathlib.Core.List.{List}
use lib.ListN.{length}
use Rattle.store_rules.specs.Store.{lent}
use Rattle.store_reader.proofs.Checks.{Passed}
use Rattle.pair_sets.specs.Marked.{mark_sorted}
use Rattle.pair_sets.proofs.marked.marked_sorted.Given as goal

abbrev pub invariant-loop-i : goal.invariant-loop-i
invariant-loop-i at = (l c : List ℕ) → Passed (mark_sorted (lent at.«data» at.objects l c) at.marks at.size) (length at.marks) at.i
