-- `pair_sets::marked::mark_sets` meets its contract: what the rows before `k` lead to has a mark. Assumes nothing.
use Prim.Native.Nat.{◌≤◌}
use mathlib.Core.Path.{◌≡◌}
use lib.ListN.{length}
use Rattle.pair_sets.specs.Marked.{MarksSets}
use Rattle.pair_sets.proofs.marked.mark_sets.Given as goal

abbrev pub invariant-loop-k : goal.invariant-loop-k
invariant-loop-k l = (l.fn.rows.first ≤ l.k) × (l.k ≤ l.fn.rows.after) × MarksSets l.links l.fn.rows.first l.k l.marks × (length l.marks ≡ length l.initial.marks)
