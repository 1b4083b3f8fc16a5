-- Marks for the pair sets that link rows lead to: how they grow row by row, and that they decide as the rows do. Assumes nothing.
use Prim.Native.Nat.{ℕ, ◌+◌, ◌-◌, ◌*◌, ◌≤◌, ◌<◌}
use mathlib.Core.Path.{◌≡◌, refl, sym, ap, ◌∙◌}
use mathlib.Core.Bool.{Bool, true, false}
use mathlib.Core.List.{List}
use mathlib.Core.Logic.{⊎_elim}
use native.Mathlib.Omega.{arith}
use lib.ListN.{length, get_or, set, replicate, length-set, get_or-replicate}
use lib.Seq.{get_or-set_same, get_or-set_other}
use lib.Dec.{eqb}
use borrow.Author.Tests.{eqb-true, eq-eqb, ne_eqb}
use Rattle.folds.specs.Folds.{all}
use Rattle.folds.proofs.Agree.{both_ways}
use Rattle.folds.proofs.Tests.{by_test, either, true_false}
use Rattle.folds.proofs.Folds.{all_at_lem, all_intro}
use Rattle.ot_layouts.specs.PairPos.{set_sorted}
use Rattle.store_rules.specs.Store.{Store, per_link, row_position, row_child, bytes_of, position_of, child_of}
use Rattle.pair_sets.specs.Sets.{is_set_slot, leads_sorted}
use Rattle.pair_sets.specs.Marked.{LeadsTo, MarksSets, mark_sorted}
use Rattle.pair_sets.proofs.Slots.{at_slot, at_no_slot}

-- ---- row by row

by_equal : {P : Type 0} (i j : ℕ) → (i ≡ j → P) → ((i ≡ j → ⊥) → P) → P
by_equal i j same other = by_test (eqb i j) (λ e. same (eqb-true i j e)) (λ n. other (λ e. true_false (sym (eq-eqb i j e) ∙ n)))

pub none_marked : (l : List ℕ) (first : ℕ) (w : List ℕ) → w ≡ replicate (length w) 0 → MarksSets l first first w
none_marked l first w z =
    record {
      marked = λ k i from to leads. let absent : ⊥ = omega arith in absurd absent;
      led = λ i h ne. absurd (ne (ap (λ (x : List ℕ). get_or x i 0) z ∙ get_or-replicate (length w) i 0 0 h));
    }

module _ {l : List ℕ} {first k : ℕ} {w : List ℕ} (m : MarksSets l first k w) (from : first ≤ k) where
  -- row k leads to the pair set c
  pub marked_more : {c : ℕ} → LeadsTo l c k → c < length w → MarksSets l first (k + 1) (set w c 1)
  marked_more {c} leads below =
      record {
        marked = λ j i lo hi there. by_equal i c
            (λ e. ap (λ (x : ℕ). get_or (set w c 1) x 0) e ∙ get_or-set_same w c 1 0 below)
            (λ ne.
            get_or-set_other w c i 1 0 ne
            ∙ ⊎_elim (λ (q : j < k). m.marked j i lo q there)
            (λ (q : k ≤ j). let e : j ≡ k = omega arith in absurd (ne (sym there.set ∙ ap (λ (x : ℕ). get_or l (per_link * x + row_child) 0) e ∙ leads.set)))
            (either j k));
        led = λ i h ne. by_equal i c
            (λ e. (k, from, omega arith, record { slot = leads.slot; set = leads.set ∙ sym e }))
            (λ other.
            let (j, lo, hi, there) = m.led i (rw length-set at h) (λ z. ne (get_or-set_other w c i 1 0 other ∙ z)) in
            (j, lo, omega arith, there));
      }

  -- row k leads to no pair set
  pub marked_none : is_set_slot (get_or l (per_link * k + row_position) 0) ≡ false → MarksSets l first (k + 1) w
  marked_none none =
      record {
        marked = λ j i lo hi there. ⊎_elim (λ (q : j < k). m.marked j i lo q there)
            (λ (q : k ≤ j). let e : j ≡ k = omega arith in true_false (sym there.slot ∙ ap (λ (x : ℕ). is_set_slot (get_or l (per_link * x + row_position) 0)) e ∙ none)) (either j k);
        led = λ i h ne. let (j, lo, hi, there) = m.led i h ne in (j, lo, omega arith, there);
      }

-- ---- one object

module _ (s : Store) (w : List ℕ) (size i : ℕ) where
  pub no_mark_lem : get_or w i 0 ≡ 0 → true ≡ mark_sorted s w size i
  unfolding mark_sorted
  no_mark_lem e = rw (eq-eqb (get_or w i 0) 0 e)

  pub mark_there : (get_or w i 0 ≡ 0 → ⊥) → {r : Bool} {v : List ℕ} → v ≡ bytes_of s i → r ≡ set_sorted v size → r ≡ mark_sorted s w size i
  unfolding mark_sorted
  mark_there n y z = rw (ne_eqb (get_or w i 0) 0 n) (z ∙ ap (λ (b : List ℕ). set_sorted b size) y)

-- ---- all of them

module _ (s : Store) (size : ℕ) {first after : ℕ} {w : List ℕ} (rise : first ≤ after) (m : MarksSets s.links first after w)
    (below : (k : ℕ) → k < after → child_of s k < length w) where
  by_mark : all (mark_sorted s w size) (length w) ≡ true → (i : ℕ) → i < after - first → leads_sorted s size (first + i) ≡ true
  unfolding mark_sorted
  by_mark h i l =
      let k = first + i in
      by_test (is_set_slot (position_of s k))
      (λ y.
      let c = child_of s k in
      let one : get_or w c 0 ≡ 1 = m.marked k c (omega arith) (omega arith) (record { slot = y; set = refl }) in
      let none : eqb (get_or w c 0) 0 ≡ false = ne_eqb (get_or w c 0) 0 (λ e. omega arith) in
      at_slot s size k y ∙ (rw none at (all_at_lem (mark_sorted s w size) (length w) h c (below k (omega arith)))))
      (at_no_slot s size k)

  by_lead : ((k : ℕ) → first ≤ k → k < after → leads_sorted s size k ≡ true) → (i : ℕ) → i < length w → mark_sorted s w size i ≡ true
  unfolding mark_sorted
  by_lead h i l =
      by_test (eqb (get_or w i 0) 0)
      (λ y. rw y)
      (λ n.
      let (k, lo, hi, there) = m.led i l (λ e. true_false (sym (eq-eqb (get_or w i 0) 0 e) ∙ n)) in
      let is : set_sorted (bytes_of s (child_of s k)) size ≡ true = sym (at_slot s size k there.slot) ∙ h k lo hi in
      rw n (ap (λ (c : ℕ). set_sorted (bytes_of s c) size) (sym there.set) ∙ is))

  pub marks_decide : all (mark_sorted s w size) (length w) ≡ all (λ i. leads_sorted s size (first + i)) (after - first)
  marks_decide =
      both_ways (all (mark_sorted s w size) (length w)) (all (λ i. leads_sorted s size (first + i)) (after - first))
      (λ h. all_intro (λ i. leads_sorted s size (first + i)) (after - first) (by_mark h))
      (λ h.
      all_intro (mark_sorted s w size) (length w)
      (λ i l.
      by_lead
      (λ k lo hi. let e : first + (k - first) ≡ k = omega arith in sym (ap (leads_sorted s size) e) ∙ all_at_lem (λ j. leads_sorted s size (first + j)) (after - first) h (k - first) (omega arith)) i l))
