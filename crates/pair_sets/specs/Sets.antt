-- Link rows that lead to pair sets. Assumes nothing.
use Rattle.std.specs.Prelude.{ℕ, ◌+◌, ◌*◌, ◌%◌, ◌≤◌, ◌<◌, ◌≡◌, Bool, true, cond, ◌&&◌, List, length, get_or, leb, eqb}
use Rattle.ot_layouts.specs.PairPos.{set_sorted}
use Rattle.store_rules.specs.Store.{Store, per_link, row_position, row_child, bytes_of, position_of, child_of}
use Rattle.store_reader.specs.Rows.{Inside}

-- a pair set is linked at q of a table of format 1: "slot 10+2k"
unfoldable pub is_set_slot : ℕ → Bool
is_set_slot q = leb 10 q && eqb (q % 2) 0

-- where row k leads to a pair set, that set is sorted
unfoldable pub leads_sorted : Store → ℕ → ℕ → Bool
leads_sorted s size k = cond (is_set_slot (position_of s k)) (set_sorted (bytes_of s (child_of s k)) size) true

-- row `other` is one from `first` on before `row`, and leads to the pair set c
pub record LeadsThere (l : List ℕ) (first row other c : ℕ) : Type 0 where
  pub from : first ≤ other
  pub before : other < row
  pub slot : is_set_slot (get_or l (per_link * other + row_position) 0) ≡ true
  pub set : get_or l (per_link * other + row_child) 0 ≡ c

-- row k is one of the link rows, and its child lies within n bytes
pub record RowInside (n : ℕ) (o l : List ℕ) (k : ℕ) : Type 0 where
  pub room : per_link * k + per_link ≤ length l
  pub small : k < 262144
  pub child : Inside n o (get_or l (per_link * k + row_child) 0)
