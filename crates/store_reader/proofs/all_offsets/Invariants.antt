-- `store_reader::all_offsets` meets its contract: the rows before `row` stand at slots. Assumes nothing.
use Prim.Native.Nat.{ℕ, ◌+◌, ◌*◌, ◌<◌, ◌≤◌}
use mathlib.Core.Bool.{Bool, true}
use mathlib.Core.Path.{◌≡◌}
use lib.ListN.{get_or}
use Rattle.store_rules.specs.Store.{per_link, row_position}
use Rattle.store_reader.specs.Rows.{Tells}
use Rattle.store_reader.proofs.all_offsets.Given as goal

abbrev pub invariant-loop-row : goal.invariant-loop-row
invariant-loop-row g l =
    (slot : ℕ → Bool) → Tells (λ q r. goal.F-post g l.is_slot q r) slot
    → (k : ℕ) → l.initial.row ≤ k → k < l.row → slot (get_or l.links (per_link * k + row_position) 0) ≡ true
