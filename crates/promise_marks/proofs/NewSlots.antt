-- The links of a new table and of its arrays stand at slots. Assumes nothing.
use Prim.Native.Nat.{ℕ, ◌+◌, ◌-◌, ◌*◌, ◌<◌, ◌≤◌}
use mathlib.Core.Path.{◌≡◌, subst}
use mathlib.Core.Bool.{true}
use mathlib.Core.List.{List}
use mathlib.Core.Logic.{◌⊎◌, inl, inr, ⊎_elim}
use native.Mathlib.Omega.{arith}
use lib.ListN.{length}
use Rattle.folds.proofs.Tests.{either}
use Rattle.folds.proofs.Each.{Each, each_append, each_then}
use Rattle.ot_layouts.specs.MarkBasePos.{mark_array_at, base_array_at, own, heads, is_table_slot, is_mark_slot, is_base_slot, mark_slot, base_slot}
use Rattle.ot_layouts.proofs.MarkSlots.{is_mark_slot_lem, is_base_slot_lem}
use Rattle.store_rules.specs.Store.{Store, Link, link_at, offset_of, linked_at}
use Rattle.store_rules.specs.Appended.{new_number}
use Rattle.store_rules.specs.Header.{header_links}
use Rattle.store_rules.proofs.Lookups.{linked_is}
use Rattle.store_rules.proofs.Shaped.{of_parent}
use Rattle.store_rules.proofs.Header.{header_each}
use Rattle.store_rules.proofs.SlotLinks.{slots_each}
use Rattle.cut_rules.specs.Ranges.{from, to}
use Rattle.mark_rules.specs.Table.{classes_of, bases_in, mark_array, base_array, marks_of, marks_within}
use Rattle.mark_rules.specs.Written.{per_table, mark_child, base_child, mark_links, base_links, array_links, table_links, fresh_links, split_store}
use Rattle.mark_rules.proofs.Checks.{AtSlots}
use Rattle.promise_marks.proofs.Ready.{Ready}
use Rattle.promise_marks.proofs.NewLinks.{Of, piece, kept_piece, table_of, array_of, new_head, head_marks, head_bases, fresh_each, array_each}
use Rattle.promise_marks.proofs.Rows.{row_fresh, from_new}

module _ (s : Store) (t : ℕ) (cs : List ℕ) (g : Ready s t cs) (j : ℕ) (l : j < length cs) where
  abbrev s' : Store
  s' = split_store s t cs

  -- new table i
  abbrev table : ℕ → ℕ
  table i = new_number s per_table i

  abbrev lo : ℕ
  lo = from cs j

  abbrev hi : ℕ
  hi = to (classes_of s t) cs j

  mark_array_lem : mark_array s' (table j) ≡ table j + 2
  mark_array_lem = linked_is s' (table j) mark_array_at (table j + 2) (new_head s t cs g j l mark_array_at (table j + 2) (head_marks s t (table j) lo hi))

  base_array_lem : base_array s' (table j) ≡ table j + 3
  base_array_lem = linked_is s' (table j) base_array_at (table j + 3) (new_head s t cs g j l base_array_at (table j + 3) (head_bases s t (table j) lo hi))

  -- a link of the table or of one of its arrays stands at a slot
  record AtSlot (x : Link) : Type 0 where
    table : x.parent ≡ new_number s per_table j → is_table_slot x.position ≡ true
    marks : x.parent ≡ new_number s per_table j + 2 → is_mark_slot x.position ≡ true
    bases : x.parent ≡ new_number s per_table j + 3 → is_base_slot x.position ≡ true

  -- its own do
  own_slots : Each AtSlot (piece s t cs j)
  unfolding table_links mark_links base_links is_table_slot
  own_slots =
      let u = table j in
      let ms = marks_within lo hi (marks_of s t) in
      each_append AtSlot (header_links own heads u (linked_at s t)) (array_links s t (u + 2) lo hi)
      (header_each own u (linked_at s t) AtSlot heads (λ q a. record { table = λ p. a; marks = λ p. absurd (omega arith); bases = λ p. absurd (omega arith) }))
      (array_each s t AtSlot (u + 2) lo hi
      (slots_each (u + 2) (mark_slot 0) 4 (mark_child ms) AtSlot (length ms)
      (λ k c m e. record { table = λ p. absurd (omega arith); marks = λ p. is_mark_slot_lem k; bases = λ p. absurd (omega arith) }))
      (slots_each (u + 2 + 1) (base_slot 0) 2 (base_child s t lo (hi - lo)) AtSlot (bases_in s t * (hi - lo))
      (λ k c m e. record { table = λ p. absurd (omega arith); marks = λ p. absurd (omega arith); bases = λ p. is_base_slot_lem k })))

  -- and no others are of these parents
  apart : (x : Link) (a b : ℕ) → Of a b x → (b ≤ table j) ⊎ (table j + 4 ≤ a) → AtSlot x
  apart x a b (low, high) (inl d) = record { table = λ p. absurd (omega arith); marks = λ p. absurd (omega arith); bases = λ p. absurd (omega arith) }
  apart x a b (low, high) (inr d) = record { table = λ p. absurd (omega arith); marks = λ p. absurd (omega arith); bases = λ p. absurd (omega arith) }

  piece_slots : (i : ℕ) → i < length cs → Each AtSlot (piece s t cs i)
  piece_slots i m =
      ⊎_elim (λ lt. other (inl (omega arith)))
      (λ ge. ⊎_elim (λ lt. other (inr (omega arith))) (λ le. let e : j ≡ i = omega arith in subst (λ (k : ℕ). Each AtSlot (piece s t cs k)) e own_slots) (either j i))
      (either i j)
    where
      other : (table i + per_table ≤ table j) ⊎ (table j + 4 ≤ table i) → Each AtSlot (piece s t cs i)
      other d =
          each_then (Of (table i) (table i + per_table)) AtSlot (λ x o. apart x (table i) (table i + per_table) o d) (piece s t cs i)
          (table_of s t (table i) (from cs i) (to (classes_of s t) cs i))

  fresh_slots : Each AtSlot (fresh_links s t cs)
  fresh_slots =
      let v = table (length cs) in
      fresh_each AtSlot s t cs piece_slots
      (each_then (Of (v + 1) (v + 1 + 2)) AtSlot (λ x o. apart x (v + 1) (v + 1 + 2) o (inr (omega arith))) (kept_piece s t cs) (array_of s t (v + 1) 0 (from cs 0)))

  pub new_slots_lem : AtSlots s' (new_number s per_table j)
  new_slots_lem =
      record {
        table = λ k m p. (row_fresh s t cs g AtSlot fresh_slots k (from_new s t cs g k (table j) m p (omega arith)) m).table (of_parent (table j) (link_at s' k) p);
        marks = λ k m p.
            let o = at_array k (table j + 2) mark_array_lem p in
            (row_fresh s t cs g AtSlot fresh_slots k (from_new s t cs g k (table j + 2) m o (omega arith)) m).marks (of_parent (table j + 2) (link_at s' k) o);
        bases = λ k m p.
            let o = at_array k (table j + 3) base_array_lem p in
            (row_fresh s t cs g AtSlot fresh_slots k (from_new s t cs g k (table j + 3) m o (omega arith)) m).bases (of_parent (table j + 3) (link_at s' k) o);
      }
    where
      at_array : (k a : ℕ) {x : ℕ} → x ≡ a → offset_of x (link_at s' k) ≡ true → offset_of a (link_at s' k) ≡ true
      at_array k a e p = subst (λ (i : ℕ). offset_of i (link_at s' k) ≡ true) e p
