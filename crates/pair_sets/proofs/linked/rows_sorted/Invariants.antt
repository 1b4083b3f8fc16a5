-- `pair_sets::linked::rows_sorted` meets its contract: all rows passed lead to sorted sets. Assumes nothing.
use Prim.Native.Nat.{ℕ, ◌+◌}
use mathlib.Core.Path.{◌≡◌}
use mathlib.Core.Bool.{Bool}
use mathlib.Core.List.{List}
use lib.ListN.{length}
use Rattle.store_rules.specs.Store.{lent}
use Rattle.store_reader.proofs.Checks.{Passed}
use Rattle.pair_sets.specs.Sets.{leads_sorted}
use Rattle.pair_sets.proofs.linked.rows_sorted.Given as goal

-- the row i behind row `first`
abbrev pub leads_at : List ℕ → List ℕ → List ℕ → ℕ → ℕ → List ℕ → ℕ → Bool
leads_at b o l size first k i = leads_sorted (lent b o l k) size (first + i)

abbrev pub invariant-loop-i : goal.invariant-loop-i
invariant-loop-i l = ((k : List ℕ) → Passed (leads_at l.«data» l.objects l.links l.size l.first k) l.count l.i) × (length l.seen ≡ length l.initial.seen)
