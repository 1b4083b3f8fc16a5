-- Objects with a mark: the pair sets that link rows lead to. Assumes nothing.
use Rattle.std.specs.Prelude.{ℕ, ◌+◌, ◌*◌, ◌≤◌, ◌<◌, ◌≡◌, Bool, true, cond, List, length, get_or, eqb}
use Rattle.ot_layouts.specs.PairPos.{set_sorted}
use Rattle.store_rules.specs.Store.{Store, per_link, row_position, row_child, bytes_of}
use Rattle.pair_sets.specs.Sets.{is_set_slot}

-- row k is one of the link rows, and its child is one of n objects
pub record RowLeads (l : List ℕ) (n k : ℕ) : Type 0 where
  pub room : per_link * k + per_link ≤ length l
  pub small : k < 262144
  pub child : get_or l (per_link * k + row_child) 0 < n

-- row k leads to the pair set i
pub record LeadsTo (l : List ℕ) (i k : ℕ) : Type 0 where
  pub slot : is_set_slot (get_or l (per_link * k + row_position) 0) ≡ true
  pub set : get_or l (per_link * k + row_child) 0 ≡ i

-- the pair sets that the rows from `first` on before `after` lead to have a mark, and nothing else has
pub record MarksSets (l : List ℕ) (first after : ℕ) (w : List ℕ) : Type 0 where
  pub marked : (k i : ℕ) → first ≤ k → k < after → LeadsTo l i k → get_or w i 0 ≡ 1
  pub led : (i : ℕ) → i < length w → (get_or w i 0 ≡ 0 → ⊥) → (k : ℕ) × (first ≤ k) × (k < after) × LeadsTo l i k

-- object i, if it has a mark, is a sorted pair set
unfoldable pub mark_sorted : Store → List ℕ → ℕ → ℕ → Bool
mark_sorted s w size i = cond (eqb (get_or w i 0) 0) true (set_sorted (bytes_of s i) size)
