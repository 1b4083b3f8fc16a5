-- `store_reader::objects_fit` meets its contract: the rows below `i` fit, and `least` is the tail of the last of them. Assumes nothing.
use Prim.Native.Nat.{ℕ}
use mathlib.Core.List.{List}
use mathlib.Core.Path.{◌≡◌}
use lib.ListN.{get_or}
use Rattle.store_rules.specs.Store.{lent, object_fits}
use Rattle.store_reader.specs.Rows.{least_head}
use Rattle.store_reader.proofs.Checks.{Passed}
use Rattle.store_reader.proofs.objects_fit.Given as goal

abbrev pub invariant-loop-i : goal.invariant-loop-i
invariant-loop-i at = ((b l : List ℕ) → Passed (object_fits (lent b at.objects l at.counts)) (get_or at.counts 1 0) at.i) × (at.least ≡ least_head at.objects at.i)
