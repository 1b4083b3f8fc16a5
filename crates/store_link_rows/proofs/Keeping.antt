-- Rows that stay, of which the kept table's lead to its new objects. Assumes nothing.
use Prim.Native.Nat.{ℕ, ◌+◌, ◌*◌, ◌≤◌}
use mathlib.Core.Path.{◌≡◌, refl}
use mathlib.Core.List.{List, map}
use lib.ListN.{length, set}
use borrow.Author.Tests.{eq-eqb, ne_eqb}
use Rattle.folds.specs.Lists.{put}
use Rattle.store_rules.specs.Store.{Store, per_link, row_child, link_at, links_of}
use Rattle.store_rules.specs.Appended.{numbers_of, row_numbers}
use Rattle.store_rules.specs.Header.{own_child, kept}
use Rattle.store_rules.proofs.Shaped.{of_other}
use Rattle.store_link_rows.specs.Rows.{segment, link_in, position_in, row, changed_row, kept_row}
use Rattle.store_link_rows.proofs.Changing.{changed_long, changed_numbers, changed_is, not_changed, child_changed}

pub kept_long : (ls own : List ℕ) (t v lo hi : ℕ) → lo ≤ hi → per_link * lo + length (segment (kept_row ls own t v) lo hi) ≡ per_link * hi
kept_long ls own t v = changed_long (kept own t v) ls

-- as links
pub numbers_kept : (s : Store) (own : List ℕ) (t v k : ℕ) → numbers_of (kept own t v (link_at s k)) ≡ kept_row s.links own t v k
unfolding changed_row
numbers_kept s own t v k = refl

pub kept_numbers : (s : Store) (own : List ℕ) (t v : ℕ) → row_numbers (map (kept own t v) (links_of s)) ≡ segment (kept_row s.links own t v) 0 s.link_count
kept_numbers s own t v = changed_numbers (kept own t v) s

-- the same row stays in the same way
pub kept_is : (ls out own : List ℕ) (t v i k : ℕ) → row out k ≡ row ls i → kept_row out own t v k ≡ kept_row ls own t v i
kept_is ls out own t v = changed_is (kept own t v) ls out

-- a row of another table is as it was
pub kept_other : (d own : List ℕ) (t v k : ℕ) → per_link * (k + 1) ≤ length d → ((link_in d k).parent ≡ t → ⊥) → d ≡ put d (per_link * k) (kept_row d own t v k)
unfolding kept
kept_other d own t v k l n = not_changed (kept own t v) d k l (rw (of_other t (link_in d k) n))

-- and so is an order-only row
pub kept_order : (d own : List ℕ) (t v k : ℕ) → per_link * (k + 1) ≤ length d → ((link_in d k).kind ≡ 0 → ⊥) → d ≡ put d (per_link * k) (kept_row d own t v k)
unfolding kept
kept_order d own t v k l n = not_changed (kept own t v) d k l (rw (ne_eqb (link_in d k).kind 0 n))

-- an offset of the kept table has another child
pub kept_own : (d own : List ℕ) (t v k x : ℕ) → per_link * (k + 1) ≤ length d → (link_in d k).parent ≡ t → (link_in d k).kind ≡ 0
    → x ≡ own_child own v (position_in d k) (link_in d k).child → set d (per_link * k + row_child) x ≡ put d (per_link * k) (kept_row d own t v k)
unfolding kept
kept_own d own t v k x l e z h = child_changed (kept own t v) d k l x (rw (eq-eqb (link_in d k).kind 0 z, eq-eqb (link_in d k).parent t e, h))
