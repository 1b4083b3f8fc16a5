-- Rows whose lookups are ordered: those before i have been, and those of them that are to be rewritten stand behind the marks. Assumes nothing.
use Prim.Native.Nat.{ℕ, ◌+◌, ◌≤◌, ◌<◌}
use mathlib.Core.Path.{◌≡◌, sym, ap, subst, ◌∙◌}
use mathlib.Core.Bool.{Bool, true, false, cond}
use mathlib.Core.List.{List, [], ◌∷◌, ◌++◌, append-nil}
use native.Mathlib.Omega.{arith}
use lib.ListN.{length, get_or, set, length-append, length-set}
use lib.Seq.{set-set}
use lib.Dec.{eqb}
use borrow.Author.Tests.{eqb-true, eqb-false, not-true, not-false}
use Rattle.folds.specs.Folds.{flat, upto}
use Rattle.folds.specs.Lists.{among, sift}
use Rattle.folds.proofs.Moved.{sift-both}
use Rattle.folds.proofs.Picked.{sift-append}
use Rattle.store_rules.specs.Store.{Store}
use Rattle.lookup_rules.specs.Listed.{each_once}
use Rattle.lookup_rules.proofs.Once.{once_seen, once_new, once_few}
use Rattle.lookup_checks.specs.Marks.{MarkedOnce}
use Rattle.lookup_checks.specs.Rows.{to_rewrite}
use Rattle.lookup_checks.specs.Ordered.{chosen, Orderable, Ordered}
use Rattle.lookup_checks.proofs.Ordering.{Marking, start, was_met, skip, is_new, other, one_more, all_met}

module _ (s : Store) (t : ℕ) (lead : ℕ → ℕ) where
  -- ---- those of the first i

  chosen_met : (i : ℕ) → among (lead i) (upto lead i) ≡ true → chosen s t lead i ≡ chosen s t lead (i + 1)
  chosen_met i h = sym (ap (sift (to_rewrite s t)) (once_seen lead i h))

  chosen_new : (i : ℕ) → among (lead i) (upto lead i) ≡ false → {b : Bool} → b ≡ to_rewrite s t (lead i)
      → chosen s t lead i ++ cond b (lead i ∷ []) [] ≡ chosen s t lead (i + 1)
  unfolding sift
  chosen_new i h {b} e =
      ap (λ (x : Bool). chosen s t lead i ++ cond x (lead i ∷ []) []) e
      ∙ sym (ap (sift (to_rewrite s t)) (once_new lead i h) ∙ sift-append (to_rewrite s t) (each_once (upto lead i)) (lead i ∷ []))

  chosen_few : (n i : ℕ) → ((j : ℕ) → j < i → lead j < n) → length (chosen s t lead i) ≤ n
  chosen_few n i h = omega (arith, sift-both (to_rewrite s t) (each_once (upto lead i)), once_few lead n i h)

  -- ---- row by row

  module _ (n size : ℕ) where
    pub record Chosen (walk : List ℕ) (found i : ℕ) : Type 0 where
      pub upto-n : i ≤ n
      pub few : found ≤ i
      pub below : (j : ℕ) → j < n → lead j < s.object_count
      pub marking : Marking s.object_count size lead i (chosen s t lead i) walk found

    pub begin : {walk : List ℕ} → ((j : ℕ) → j < n → lead j < s.object_count) → Orderable s lead n walk → length walk ≡ size → Chosen walk 0 0
    unfolding flat each_once sift
    begin below o e =
        record { upto-n = omega arith; few = omega arith; below = below; marking = start s.object_count size lead (omega (arith, o.room)) e o.blank }

    module _ {walk : List ℕ} {found i : ℕ} (w : Chosen walk found i) (h : i < n) where
      -- it has been met
      pub met : {next : List ℕ} {r : Bool} → MarkedOnce walk (lead i) next r → r ≡ true → Chosen next found (i + 1)
      met {next} {r} m taken =
          let ne = eqb-false (get_or walk (lead i) 0) 0 (not-true (eqb (get_or walk (lead i) 0) 0) (sym m.told ∙ taken)) in
          subst (λ (x : List ℕ). Chosen x found (i + 1)) (sym (m.kept taken))
          (record {
            upto-n = omega arith;
            few = omega (arith, w.few);
            below = w.below;
            marking =
                subst (λ (ps : List ℕ). Marking s.object_count size lead (i + 1) ps walk found)
                (chosen_met i (was_met s.object_count size lead w.marking (w.below i h) ne))
                (skip s.object_count size lead w.marking (w.below i h) ne);
          })

      -- it gets a mark
      module _ {next : List ℕ} {r : Bool} (m : MarkedOnce walk (lead i) next r) (left : r ≡ false) {b : Bool} (e : b ≡ to_rewrite s t (lead i)) where
        blank : get_or walk (lead i) 0 ≡ 0
        blank = eqb-true (get_or walk (lead i) 0) 0 (not-false (eqb (get_or walk (lead i) 0) 0) (sym m.told ∙ left))

        new : among (lead i) (upto lead i) ≡ false
        new = is_new s.object_count size lead w.marking (w.below i h) blank

        pub one_other : b ≡ false → Chosen next found (i + 1)
        one_other f =
            subst (λ (x : List ℕ). Chosen x found (i + 1)) (sym (m.put left))
            (record {
              upto-n = omega arith;
              few = omega (arith, w.few);
              below = w.below;
              marking =
                  subst (λ (ps : List ℕ). Marking s.object_count size lead (i + 1) ps (set walk (lead i) 1) found)
                  (sym (append-nil (chosen s t lead i)) ∙ chosen_new i new (sym f ∙ e))
                  (other s.object_count size lead w.marking (w.below i h) blank);
            })

        module _ (f : b ≡ true) where
          more : chosen s t lead i ++ (lead i ∷ []) ≡ chosen s t lead (i + 1)
          more = chosen_new i new (sym f ∙ e)

          one_few : found < s.object_count
          one_few =
              omega (
                arith,
                w.marking.count,
                ap length more,
                length-append (chosen s t lead i) (lead i ∷ []),
                chosen_few s.object_count (i + 1) (λ j l. w.below j (omega arith)),
              )

          -- it has a place behind the marks
          pub placed : s.object_count ≤ 65536 → (lead i < length next) × (s.object_count + found < length next) × (found < 65536)
          placed most =
              let long : length next ≡ size = ap length (m.put left) ∙ length-set walk (lead i) 1 ∙ w.marking.sized in
              (omega (arith, w.below i h, w.marking.room), omega (arith, one_few, w.marking.room), omega (arith, one_few))

          pub one_chosen : {last : List ℕ} → last ≡ set (set next (lead i) (found + 2)) (s.object_count + found) (lead i) → Chosen last (found + 1) (i + 1)
          one_chosen {last} put =
              let then : List ℕ = set (set walk (lead i) (found + 2)) (s.object_count + found) (lead i) in
              let same : last ≡ then = put
              ∙ ap (λ (x : List ℕ). set (set x (lead i) (found + 2)) (s.object_count + found) (lead i)) (m.put left)
              ∙ ap (λ (x : List ℕ). set x (s.object_count + found) (lead i)) (set-set walk (lead i) 1 (found + 2)) in
              subst (λ (x : List ℕ). Chosen x (found + 1) (i + 1)) (sym same)
              (record {
                upto-n = omega arith;
                few = omega (arith, w.few);
                below = w.below;
                marking =
                    subst (λ (ps : List ℕ). Marking s.object_count size lead (i + 1) ps then (found + 1)) more
                    (one_more s.object_count size lead w.marking (w.below i h) blank one_few);
              })

    pub end : {walk : List ℕ} {found i : ℕ} → Chosen walk found i → n ≤ i → Ordered s.object_count (chosen s t lead n) walk found
    end {walk} {found} {i} w h =
        let z : i ≡ n = omega (arith, w.upto-n) in
        let few : found ≤ s.object_count = omega (arith, w.marking.count, chosen_few s.object_count i (λ j l. w.below j (omega arith))) in
        subst (λ (k : ℕ). Ordered s.object_count (chosen s t lead k) walk found) z (all_met s.object_count size lead w.marking few)
