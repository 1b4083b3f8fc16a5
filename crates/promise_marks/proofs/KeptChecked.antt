-- Check 7 does not apply to the kept table: its links and those of its arrays stand at slots, and it cannot be reached from itself. Assumes nothing.
use Rattle.std.specs.Prelude.{Some}
use Prim.Native.Nat.{ℕ, ◌+◌, ◌-◌, ◌*◌, ◌<◌, ◌≤◌}
use mathlib.Core.Path.{◌≡◌, refl, sym, ap, subst, ◌∙◌}
use mathlib.Core.Bool.{Bool, true, false}
use mathlib.Core.List.{List}
use mathlib.Core.Logic.{◌⊎◌, inl, inr, ⊎_elim}
use native.Mathlib.Omega.{arith}
use native.Mathlib.Nat.{mul-le-mul_left, mul-add}
use lib.ListN.{length}
use Rattle.folds.specs.Lists.{among}
use Rattle.folds.proofs.Tests.{by_test, true_false}
use Rattle.folds.proofs.Each.{Each, each_append, each_upto, each_then, each_at, each_sift, each_among}
use Rattle.ot_layouts.specs.MarkBasePos.{base_cover_at, mark_array_at, base_array_at, own, heads, is_table_slot, is_mark_slot, is_base_slot, mark_slot, base_slot}
use Rattle.ot_layouts.proofs.MarkSlots.{is_mark_slot_lem, is_base_slot_lem}
use Rattle.store_rules.specs.Store.{Store, Link, link_at, parent_of, child_of, child_at, offset_of, linked_at}
use Rattle.store_rules.specs.Reach.{marked, reached, on_cycle, Reach}
use Rattle.store_rules.specs.Appended.{new_number}
use Rattle.store_rules.specs.Header.{own_child, header_links}
use Rattle.store_rules.proofs.Reached.{reached_only, reached_all}
use Rattle.store_rules.proofs.Lookups.{child_row, child_used_lem, linked_is}
use Rattle.store_rules.proofs.Shaped.{of_parent}
use Rattle.store_rules.proofs.Header.{header_each, kept_any}
use Rattle.store_rules.proofs.SlotLinks.{slots_each}
use Rattle.cut_rules.specs.Ranges.{from, to}
use Rattle.mark_rules.specs.Table.{Mark, classes_of, marks_in, bases_in, mark_array, mark_anchor, base_array, marks_of, mark_at, marks_within, in_classes, base_anchor}
use Rattle.mark_rules.specs.Written.{per_table, no_mark, mark_child, base_child, mark_links, base_links, array_links, table_links, fresh_links, split_store}
use Rattle.mark_rules.proofs.Checks.{AtSlots}
use Rattle.promise_marks.proofs.Ready.{Ready, objects_then}
use Rattle.promise_marks.proofs.NewLinks.{Of, piece, kept_piece, table_of, kept_child, fresh_each, array_each}
use Rattle.promise_marks.proofs.StaysSound.{fits_then_lem}
use Rattle.promise_marks.proofs.Rows.{row_old, row_fresh, from_old, from_new, same_offset, same_position, same_child}

module _ (s : Store) (t : ℕ) (cs : List ℕ) (g : Ready s t cs) where
  abbrev s' : Store
  s' = split_store s t cs

  -- where the kept table's new parts start
  abbrev v : ℕ
  v = new_number s per_table (length cs)

  mark_array_lem : mark_array s' t ≡ v + 1
  unfolding own_child
  mark_array_lem = let (d, e) = g.parts.marks in linked_is s' t mark_array_at (v + 1) (kept_child s t cs g mark_array_at ∙ rw e)

  base_array_lem : base_array s' t ≡ v + 2
  unfolding own_child
  base_array_lem =
      let (d, e) = g.parts.bases in
      let z : v + 1 + 1 ≡ v + 2 = omega arith in
      linked_is s' t base_array_at (v + 1 + 1) (kept_child s t cs g base_array_at ∙ rw e) ∙ z

  -- ---- the kept table's links stand at slots

  -- a new link of the kept table's arrays does
  abbrev AtSlot : Link → Type 0
  AtSlot l = (l.parent ≡ v + 1 → is_mark_slot l.position ≡ true) × (l.parent ≡ v + 2 → is_base_slot l.position ≡ true)

  kept_slots : Each AtSlot (kept_piece s t cs)
  unfolding mark_links base_links
  kept_slots =
      let ms = marks_within 0 (from cs 0) (marks_of s t) in
      let w = from cs 0 - 0 in
      array_each s t AtSlot (v + 1) 0 (from cs 0)
      (slots_each (v + 1) (mark_slot 0) 4 (mark_child ms) AtSlot (length ms) (λ k c l e. (λ p. is_mark_slot_lem k, λ p. absurd (omega arith))))
      (slots_each (v + 1 + 1) (base_slot 0) 2 (base_child s t 0 w) AtSlot (bases_in s t * w) (λ k c l e. (λ p. absurd (omega arith), λ p. is_base_slot_lem k)))

  fresh_slots : Each AtSlot (fresh_links s t cs)
  fresh_slots = fresh_each AtSlot s t cs elsewhere kept_slots
    where
      elsewhere : (j : ℕ) → j < length cs → Each AtSlot (piece s t cs j)
      elsewhere j l =
          let u = new_number s per_table j in
          let far = mul-le-mul_left {m = j + 1} {n = length cs} per_table (omega arith) in
          let one = mul-add per_table j 1 in
          each_then (Of u (u + per_table)) AtSlot (λ l (a, b). (λ p. absurd (omega arith), λ p. absurd (omega arith))) (piece s t cs j)
          (table_of s t u (from cs j) (to (classes_of s t) cs j))

  pub slots_then : AtSlots s' t
  slots_then =
      record {
        table = λ k l p.
            let m = from_old s t cs g k t l p g.reads.used in
            ap is_table_slot (same_position s t cs g k m) ∙ g.at_slots.table k m (sym (same_offset s t cs g k m t) ∙ p);
        marks = λ k l p.
            let o = at_array k (v + 1) mark_array_lem p in
            (row_fresh s t cs g AtSlot fresh_slots k (from_new s t cs g k (v + 1) l o (omega arith)) l).0 (of_parent (v + 1) (link_at s' k) o);
        bases = λ k l p.
            let o = at_array k (v + 2) base_array_lem p in
            (row_fresh s t cs g AtSlot fresh_slots k (from_new s t cs g k (v + 2) l o (omega arith)) l).1 (of_parent (v + 2) (link_at s' k) o);
      }
    where
      at_array : (k a : ℕ) {x : ℕ} → x ≡ a → offset_of x (link_at s' k) ≡ true → offset_of a (link_at s' k) ≡ true
      at_array k a e p = subst (λ (i : ℕ). offset_of i (link_at s' k) ≡ true) e p

  -- ---- the kept table cannot be reached from itself

  -- rows of the table
  abbrev of_t : Store → ℕ → Bool
  of_t x k = offset_of t (link_at x k)

  pub not_back : Reach s (of_t s) t → ⊥
  unfolding on_cycle
  not_back r = let z : ◌≡◌ {A = ℕ} 0 1 = true_false (sym (reached_all s (of_t s) g.fit r) ∙ g.acyclic) in omega arith

  -- what the table leads to
  leads_to_lem : (q c : ℕ) → child_at s t q ≡ Some c → Reach s (of_t s) c
  leads_to_lem q c e = let (k, l, a, b, x) = child_row s t q c e in Reach.seed k l a x

  -- and what one of its arrays does
  array_leads : (at d : ℕ) → child_at s t at ≡ Some d → (q c : ℕ) → child_at s (linked_at s t at) q ≡ Some c → Reach s (of_t s) c
  array_leads at d f q c e =
      let (k, l, a, b, x) = child_row s (linked_at s t at) q c e in
      Reach.step (leads_to_lem at d f) k l (subst (λ (i : ℕ). offset_of i (link_at s k) ≡ true) (linked_is s t at d f) a) x

  pub mark_leads : (q c : ℕ) → child_at s (mark_array s t) q ≡ Some c → Reach s (of_t s) c
  mark_leads = let (d, f) = g.parts.marks in array_leads mark_array_at d f

  pub base_leads : (q c : ℕ) → child_at s (base_array s t) q ≡ Some c → Reach s (of_t s) c
  base_leads = let (d, f) = g.parts.bases in array_leads base_array_at d f

  -- it is new, or the table reached it
  abbrev Known : ℕ → Type 0
  Known i = (s.object_count ≤ i) ⊎ ((i < s.object_count) × Reach s (of_t s) i)

  abbrev Leads : Link → Type 0
  Leads l = Known l.child

  abbrev KnownAnchor : Mark → Type 0
  KnownAnchor m = (c : ℕ) → m.anchor ≡ Some c → Known c

  marks_known : (lo hi : ℕ) → Each KnownAnchor (marks_within lo hi (marks_of s t))
  unfolding marks_within marks_of mark_at mark_anchor
  marks_known lo hi =
      each_sift KnownAnchor KnownAnchor (λ m. in_classes lo hi m.class) (λ m h e. h) (marks_of s t)
      (each_upto KnownAnchor (mark_at s t) (marks_in s t)
      (λ k l c e. inr (child_used_lem s (mark_array s t) g.fit (mark_slot k) c e, mark_leads (mark_slot k) c e)))

  array_known : (p lo hi : ℕ) → Each Leads (array_links s t p lo hi)
  unfolding mark_links base_links base_anchor
  array_known p lo hi =
      let ms = marks_within lo hi (marks_of s t) in
      array_each s t Leads p lo hi
      (slots_each p (mark_slot 0) 4 (mark_child ms) Leads (length ms) (λ k c l e. each_at KnownAnchor ms (marks_known lo hi) k l no_mark c e))
      (slots_each (p + 1) (base_slot 0) 2 (base_child s t lo (hi - lo)) Leads (bases_in s t * (hi - lo))
      (λ k c l e. inr (child_used_lem s (base_array s t) g.fit _ c e, base_leads _ c e)))

  heads_known : (u : ℕ) → s.object_count ≤ u → (q : ℕ) → among q heads ≡ true → Known (own_child own (u + 1) q (linked_at s t q))
  unfolding own_child
  heads_known u h q a =
      let (d, e) = g.parts.base_cover in
      let z = linked_is s t base_cover_at d e in
      let base : Known (linked_at s t base_cover_at)
      = inr (omega (arith, child_used_lem s t g.fit base_cover_at d e), subst (Reach s (of_t s)) (sym z) (leads_to_lem base_cover_at d e)) in
      each_among (λ q. Known (own_child own (u + 1) q (linked_at s t q))) heads q
      (inl (omega arith), (base, (inl (omega arith), (inl (omega arith), tt)))) a

  table_known : (u lo hi : ℕ) → s.object_count ≤ u → Each Leads (table_links s t u lo hi)
  unfolding table_links
  table_known u lo hi h =
      each_append Leads (header_links own heads u (linked_at s t)) (array_links s t (u + 2) lo hi)
      (header_each own u (linked_at s t) Leads heads (heads_known u h))
      (array_known (u + 2) lo hi)

  fresh_known : Each Leads (fresh_links s t cs)
  fresh_known =
      fresh_each Leads s t cs (λ j l. table_known (new_number s per_table j) (from cs j) (to (classes_of s t) cs j) (omega arith))
      (array_known (v + 1) 0 (from cs 0))

  -- a row of the table leads where it led, or to a new part
  kept_known : (k : ℕ) → k < s.link_count → of_t s k ≡ true → Known (child_of s' k)
  kept_known k l p =
      subst Leads (sym (row_old s t cs g k l))
      (⊎_elim
      (λ e. subst Known (sym e) (inr ((g.fit.link k l).child_used, Reach.seed k l p refl)))
      (λ (a, b). inl (omega arith))
      (kept_any own t v (link_at s k)))

  leads : {i : ℕ} → Reach s' (of_t s') i → Known i
  leads (Reach.seed {i} k l a e) =
      let m = from_old s t cs g k t l a g.reads.used in
      subst Known e (kept_known k m (sym (same_offset s t cs g k m t) ∙ a))
  leads (Reach.step {i} {j} r k l p e) =
      ⊎_elim
      (λ ge. subst Known e (row_fresh s t cs g Leads fresh_known k (from_new s t cs g k i l p ge) l))
      (λ (lt, y).
      let m = from_old s t cs g k i l p lt in
      let q : offset_of i (link_at s k) ≡ true = sym (same_offset s t cs g k m i) ∙ p in
      let ne : parent_of s k ≡ t → ⊥ = λ z. not_back (subst (Reach s (of_t s)) (sym (of_parent i (link_at s k) q) ∙ z) y) in
      let w : child_of s k ≡ j = sym (same_child s t cs g k m ne) ∙ e in
      inr (subst (λ (n : ℕ). n < s.object_count) w (g.fit.link k m).child_used, Reach.step y k m q w))
      (leads r)

  pub still_acyclic : on_cycle s' t ≡ false
  unfolding on_cycle
  still_acyclic =
      let used : t < s'.object_count = omega (arith, g.reads.used, objects_then s t cs g) in
      by_test (marked (reached s' (of_t s')) t)
      (λ e. absurd (⊎_elim (λ x. omega (arith, g.reads.used)) (λ (x, y). not_back y) (leads (reached_only s' (of_t s') (fits_then_lem s t cs g) t used e))))
      (λ e. e)
