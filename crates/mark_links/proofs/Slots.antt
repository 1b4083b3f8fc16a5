-- One slot copied, and the slots of a mark array one by one. Assumes nothing.
use Rattle.std.specs.Prelude.{Option, Some, None}
use Prim.Native.Nat.{ℕ, ◌+◌, ◌*◌, ◌≤◌}
use mathlib.Core.Path.{◌≡◌, sym, subst, ap, ◌∙◌}
use mathlib.Core.List.{List, []}
use native.Mathlib.Omega.{arith}
use lib.ListN.{length, get_or}
use Rattle.folds.specs.Lists.{put}
use Rattle.ot_layouts.specs.MarkBasePos.{mark_slot}
use Rattle.store_rules.specs.Store.{Link, lent, per_link, lookup, child_at}
use Rattle.store_rules.specs.Appended.{link, numbers_of, row_numbers}
use Rattle.store_rules.specs.SlotLinks.{slot_link}
use Rattle.store_link_rows.specs.Copies.{in_use, RowsRoom, Copied}
use Rattle.mark_links.specs.Copies.{slot_copy}
use Rattle.store_link_rows.proofs.Copying.{copied_none}

module _ (ls counts : List ℕ) (array q p slot at : ℕ) {r : Option ℕ} (e : r ≡ child_at (lent [] [] ls counts) array q) where
  pub nowhere_copied : r ≡ None → Copied ls at (slot_copy (in_use ls counts) array q p slot) ls at
  unfolding child_at slot_link
  nowhere_copied n = subst (λ (o : Option ℕ). Copied ls at (slot_link p slot o) ls at) (sym n ∙ e) (copied_none ls at)

  module _ {c : ℕ} (y : r ≡ Some c) where
    there : lookup (in_use ls counts) array q ≡ Some c
    unfolding child_at
    there = sym e ∙ y

    pub room_for_one : RowsRoom ls counts at (slot_copy (in_use ls counts) array q p slot) → per_link * (at + 1) ≤ length ls
    unfolding slot_link
    room_for_one room = omega (arith, room.fits, ap (λ (o : Option ℕ). length (slot_link p slot o)) there)

    pub one_copied : (out : List ℕ) → out ≡ put ls (per_link * at) (numbers_of (link p slot c))
        → Copied ls at (slot_copy (in_use ls counts) array q p slot) out (at + 1)
    unfolding slot_link row_numbers
    one_copied out h = subst (λ (o : Option ℕ). Copied ls at (slot_link p slot o) out (at + 1)) (sym there) (record { rows_are = h; next = omega arith })

-- ---- marks

-- the slot of mark k of those at these places
abbrev pub mark_turn : ℕ → List ℕ → ℕ → List Link → ℕ → List Link
mark_turn array places p old k = slot_copy old array (mark_slot (get_or places k 0)) p (mark_slot 0 + 4 * k)
