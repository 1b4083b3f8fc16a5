-- What the kept table's items reach is what they reached, and check 7 does not apply to it. Assumes nothing.
use Prim.Native.Nat.{ℕ, ◌+◌, ◌<◌, ◌≤◌}
use mathlib.Core.Path.{◌≡◌, refl, sym, ap, subst, ◌∙◌}
use mathlib.Core.Bool.{Bool, true, false}
use mathlib.Core.List.{List, ◌++◌, map}
use mathlib.Core.Logic.{◌⊎◌, inl, inr, ⊎_elim}
use native.Mathlib.Omega.{arith}
use native.Mathlib.Nat.{mul-le-mul_left, mul-add}
use lib.ListN.{length}
use Rattle.folds.specs.Folds.{flat}
use Rattle.folds.specs.Lists.{sift}
use Rattle.folds.proofs.Tests.{by_test, true_false}
use Rattle.folds.proofs.Each.{Each, each_upto, each_append, each_moved, each_flat, each_at}
use Rattle.ot_layouts.specs.PairPos.{Shape, heads, is_slot}
use Rattle.store_rules.specs.Store.{Store, Link, link_at, links_of, parent_of, child_of, position_of, bytes_of, linked_at, offset_of}
use Rattle.pair_rules.specs.Table.{of_items, shape, all_at_slots}
use Rattle.store_rules.specs.Reach.{item_size, on_cycle, marked, reached, Reach}
use Rattle.pair_rules.specs.Written.{split_store, table_links, moved, head_links, per_table}
use Rattle.cut_rules.specs.Ranges.{from, to}
use Rattle.store_rules.proofs.Reached.{reached_all, reached_only}
use Rattle.store_rules.proofs.LinksFit.{rows_many}
use Rattle.store_rules.proofs.LinkRows.{row_is, no_link}
use Rattle.store_rules.specs.Appended.{new_number}
use Rattle.pair_rules.proofs.Checks.{all_at_slots_lem, at_slot}
use Rattle.pair_rules.proofs.NewCounts.{per_two}
use Rattle.store_rules.specs.Header.{kept}
use Rattle.store_rules.proofs.Shaped.{of_parent}
use Rattle.store_rules.proofs.Header.{header_each, kept_parent, kept_position, kept_offset, kept_any, kept_other}
use Rattle.pair_after.proofs.Ready.{Ready, objects_then}
use Rattle.pair_after.proofs.NewLinks.{stays, piece, stayed, links_then}
use Rattle.pair_after.proofs.View.{View, view_shape}
use Rattle.pair_after.proofs.KeptAndNew.{view_kept}
use Rattle.pair_after.proofs.SoundThen.{fits_then_lem}
use Rattle.pair_after.proofs.ViewReach as ViewReach

module _ (s : Store) (t : ℕ) (cs : List ℕ) (g : Ready s t cs) where
  abbrev sh : Shape
  sh = shape s t

  abbrev s' : Store
  s' = split_store s t cs

  -- where the kept table's coverage is
  abbrev v : ℕ
  v = new_number s (per_table (shape s t)) (length cs)

  -- ---- rows, old and new

  -- a row after the split is an old one that stays, or a new table's
  abbrev Kind : Link → Type 0
  Kind l = ((m : ℕ) × (m < s.link_count) × (l ≡ kept sh.own t v (link_at s m))) ⊎ ((j : ℕ) × (j < length cs) × (l.parent ≡ new_number s (per_table (shape s t)) j))

  abbrev IsRow : Link → Type 0
  IsRow l = (k : ℕ) × (k < s.link_count) × (l ≡ link_at s k)

  old_rows : Each IsRow (links_of s)
  unfolding links_of
  old_rows = each_upto IsRow (link_at s) s.link_count (λ k l. (k, l, refl))

  piece_kind : (j : ℕ) → j < length cs → Each Kind (piece s t cs j)
  unfolding table_links moved
  piece_kind j l =
      let u = new_number s (per_table sh) j in
      each_append Kind (head_links sh u (linked_at s t)) (map (moved sh u (from cs j)) (sift (of_items t sh (from cs j) (to sh.count cs j)) (links_of s)))
      (header_each sh.own u (linked_at s t) Kind (heads sh) (λ q a. inr (j, l, refl)))
      (each_moved IsRow Kind (moved sh u (from cs j)) (of_items t sh (from cs j) (to sh.count cs j)) (λ k r h. inr (j, l, refl)) (links_of s) old_rows)

  kinds : Each Kind (stayed s t cs ++ flat (piece s t cs) (length cs))
  kinds =
      each_append Kind (stayed s t cs) (flat (piece s t cs) (length cs))
      (each_moved IsRow Kind (kept sh.own t v) (stays s t cs) (λ l (k, a, b) h. inl (k, a, ap (kept sh.own t v) b)) (links_of s) old_rows)
      (each_flat Kind (piece s t cs) (length cs) piece_kind)

  many_rows : s'.link_count ≡ length (stayed s t cs ++ flat (piece s t cs) (length cs))
  many_rows = sym (rows_many s') ∙ ap length (links_then s t cs)

  row_kind_lem : (k : ℕ) → k < s'.link_count → Kind (link_at s' k)
  row_kind_lem k h =
      let ls = stayed s t cs ++ flat (piece s t cs) (length cs) in
      subst Kind (sym (row_is s' ls (links_then s t cs) k h no_link)) (each_at Kind ls kinds k (omega (arith, many_rows)) no_link)

  -- an offset of an old object was one
  old_row : (k i : ℕ) → k < s'.link_count → offset_of i (link_at s' k) ≡ true → i < s.object_count
      → (m : ℕ) × (m < s.link_count) × (offset_of i (link_at s m) ≡ true) × (link_at s' k ≡ kept sh.own t v (link_at s m))
  old_row k i l p h =
      ⊎_elim (λ (m, a, q). (m, a, sym (ap (offset_of i) q ∙ kept_offset sh.own t v (link_at s m) i) ∙ p, q))
      (λ (j, a, q). absurd (omega (arith, of_parent i (link_at s' k) p))) (row_kind_lem k l)

  -- no row leads from the kept table's new parts
  no_row : (k i : ℕ) → k < s'.link_count → offset_of i (link_at s' k) ≡ true → v ≤ i → ⊥
  no_row k i l o h =
      let p = of_parent i (link_at s' k) o in
      ⊎_elim (λ (m, a, q). omega (arith, ap (λ (x : Link). x.parent) q, kept_parent sh.own t v (link_at s m), (g.fit.link m a).parent_used))
      (λ (j, a, q). omega (arith, per_two (bytes_of s t), mul-le-mul_left {m = j + 1} {n = length cs} (per_table sh) (omega arith), mul-add (per_table sh) j 1)) (row_kind_lem k l)

  child_is : (k : ℕ) (l : Link) → link_at s' k ≡ l → child_of s' k ≡ l.child
  child_is k l e = ap (λ (x : Link). x.child) e

  -- ---- 7 does not apply to the kept table

  view : View s t s' t 0 (from cs 0)
  view = view_kept s t cs g

  slot_same : (q : ℕ) → is_slot (shape s' t) q ≡ is_slot sh q
  unfolding is_slot
  slot_same q = ap (λ (x : Shape). is_slot x q) (view_shape view)

  pub at_slots_lem : all_at_slots s' t ≡ true
  at_slots_lem = all_at_slots_lem s' t one
    where
      one : (k : ℕ) → k < s'.link_count → offset_of t (link_at s' k) ≡ true → is_slot (shape s' t) (position_of s' k) ≡ true
      one k l e =
          let (m, a, p, q) = old_row k t l e g.reads.used in
          slot_same (position_of s' k) ∙ ap (is_slot sh) (ap (λ (x : Link). x.position) q ∙ kept_position sh.own t v (link_at s m)) ∙ at_slot s t g.at_slots m a p

  -- rows of the table
  abbrev of_t : Store → ℕ → Bool
  of_t x k = offset_of t (link_at x k)

  not_back : Reach s (of_t s) t → ⊥
  unfolding on_cycle
  not_back r = let z : ◌≡◌ {A = ℕ} 0 1 = true_false (sym (reached_all s (of_t s) g.fit r) ∙ g.acyclic) in omega arith

  -- the kept table reaches its new parts, and what the table reached
  leads : {i : ℕ} → Reach s' (of_t s') i → (v ≤ i) ⊎ ((i < s.object_count) × Reach s (of_t s) i)
  leads (Reach.seed {i} k l a e) =
      let (m, b, c, q) = old_row k t l a g.reads.used in
      let d = child_is k (kept sh.own t v (link_at s m)) q in
      ⊎_elim
      (λ x.
      let w : child_of s m ≡ i = sym x ∙ sym d ∙ e in
      inr (subst (λ (n : ℕ). n < s.object_count) w (g.fit.link m b).child_used, Reach.seed m b c w))
      (λ (x, y). inl (omega arith))
      (kept_any sh.own t v (link_at s m))
  leads (Reach.step {i} {j} r k l p e) =
      ⊎_elim (λ x. absurd (no_row k i l p x))
      (λ (x, y).
      let (m, b, c, q) = old_row k i l p x in
      let ne : parent_of s m ≡ t → ⊥ = λ z. not_back (subst (Reach s (of_t s)) (sym (of_parent i (link_at s m) c) ∙ z) y) in
      let w : child_of s m ≡ j = sym (kept_other sh.own t v (link_at s m) ne) ∙ sym (child_is k (kept sh.own t v (link_at s m)) q) ∙ e in
      inr (subst (λ (n : ℕ). n < s.object_count) w (g.fit.link m b).child_used, Reach.step y m b c w))
      (leads r)

  pub still_acyclic : on_cycle s' t ≡ false
  unfolding on_cycle
  still_acyclic =
      by_test (marked (reached s' (of_t s')) t)
      (λ e. absurd (⊎_elim (λ x. omega (arith, g.reads.used)) (λ (x, y). not_back y) (leads (reached_only s' (of_t s') (fits_then_lem s t cs g) t (omega (arith, g.reads.used, objects_then s t cs g)) e))))
      (λ e. e)

  -- ---- S of the kept table's items is what it was

  pub size_same : (i : ℕ) → i < from cs 0 → item_size s' (of_items t (shape s' t)) 0 i ≡ item_size s (of_items t sh) 0 i
  size_same i h = let z : 0 + i ≡ i = omega arith in ViewReach.size_same s t cs g view i (omega arith) ∙ ap (item_size s (of_items t sh) 0) z
