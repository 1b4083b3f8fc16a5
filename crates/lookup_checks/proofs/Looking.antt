-- Rows whose lookups are looked at, each that has a place once: those before i have been, and what has a mark is one of theirs. Assumes nothing.
use Prim.Native.Nat.{ℕ, ◌+◌, ◌≤◌, ◌<◌}
use mathlib.Core.Path.{◌≡◌, refl, sym, ap, subst, ◌∙◌}
use mathlib.Core.Bool.{Bool, true, false, not, ◌&&◌, ◌||◌}
use mathlib.Core.List.{List}
use mathlib.Core.Logic.{⊎_elim}
use native.Mathlib.Omega.{arith}
use native.Mathlib.Numerals.{add-one}
use native.Mathlib.Decide.{ℕ_discrete}
use lib.ListN.{length, get_or, replicate, length-set, get_or-replicate, length-replicate, get_or-eq_default}
use lib.Seq.{get_or-set_other}
use lib.Dec.{eqb}
use borrow.Author.Tests.{eqb-false, not-true}
use Rattle.folds.specs.Folds.{all}
use Rattle.folds.proofs.Tests.{either, by_test, and_first}
use Rattle.folds.proofs.Folds.{all_none, all_more, all_at_lem, all_fails}
use Rattle.store_rules.specs.Store.{Store}
use Rattle.lookup_rules.specs.Listed.{good_lookup}
use Rattle.lookup_checks.specs.Marks.{MarkedOnce}
use Rattle.lookup_checks.specs.Rows.{to_rewrite, fit_and_name}

or_true : (b : Bool) → (b || true) ≡ true
or_true true = refl
or_true false = refl

or_false : (b : Bool) → (b || false) ≡ b
or_false true = refl
or_false false = refl

-- where an index adds nothing
all-keeps : (p : ℕ → Bool) (i : ℕ) → (all p i ≡ true → p i ≡ true) → all p (i + 1) ≡ all p i
unfolding all
all-keeps p i h = rw add-one (go (all p i) h)
  where
    go : (b : Bool) → (b ≡ true → p i ≡ true) → (b && p i) ≡ b
    go true k = k refl
    go false k = refl

pub zeros_at : (n c : ℕ) → get_or {A = ℕ} (replicate n 0) c 0 ≡ 0
zeros_at n c =
    ⊎_elim (λ lt. get_or-replicate {A = ℕ} n c 0 0 lt)
    (λ ge. get_or-eq_default {A = ℕ} (replicate n 0) 0 {n = c} (omega (arith, length-replicate {A = ℕ} n 0)))
    (either c n)

module _ (s : Store) (t : ℕ) (lead : ℕ → ℕ) (n size : ℕ) where
  abbrev fits : ℕ → Bool
  fits j = good_lookup s (lead j)

  abbrev passes : ℕ → Bool
  passes j = not (to_rewrite s t (lead j))

  pub record Looked (marks : List ℕ) (named : Bool) (i : ℕ) : Type 0 where
    pub upto : i ≤ n
    pub sized : length marks ≡ size
    pub fitting : all fits i ≡ true
    pub naming : named ≡ not (all passes i)
    pub seen : (c : ℕ) → (get_or marks c 0 ≡ 0 → ⊥) → (j : ℕ) × (j < i) × (lead j ≡ c)

  pub start : (m : ℕ) {marks : List ℕ} → marks ≡ replicate m 0 → length marks ≡ size → Looked marks false 0
  start m {marks} e z =
      record {
        upto = omega arith;
        sized = z;
        fitting = all_none fits;
        naming = ap not (sym (all_none passes));
        seen = λ c h. absurd (h (ap (λ (x : List ℕ). get_or x c 0) e ∙ zeros_at m c));
      }

  module _ {marks : List ℕ} {named : Bool} {i : ℕ} (w : Looked marks named i) (h : i < n) where
    pub unfit : {r : Bool} → r ≡ good_lookup s (lead i) → not r ≡ true → false ≡ fit_and_name s t lead n
    unfit {r} e x = sym (and_first (all fits n) _ (all_fails fits i n h (sym e ∙ not-true r x)))

    -- the next one has a mark: its lookup has been looked at
    pub again : {next : List ℕ} {r : Bool} → MarkedOnce marks (lead i) next r → r ≡ true → Looked next named (i + 1)
    again {next} {r} m taken =
        let (j, l, z) = w.seen (lead i) (eqb-false (get_or marks (lead i) 0) 0 (not-true (eqb (get_or marks (lead i) 0) 0) (sym m.told ∙ taken))) in
        subst (λ (x : List ℕ). Looked x named (i + 1)) (sym (m.kept taken))
        (record {
          upto = omega arith;
          sized = w.sized;
          fitting = all_more fits i w.fitting (ap (good_lookup s) (sym z) ∙ all_at_lem fits i w.fitting j l);
          naming = w.naming ∙ ap not (sym (all-keeps passes i (λ a. ap (λ (c : ℕ). not (to_rewrite s t c)) (sym z) ∙ all_at_lem passes i a j l)));
          seen = λ c ne. let (k, d, e) = w.seen c ne in (k, omega arith, e);
        })

    -- it gets one
    module _ {next : List ℕ} {r : Bool} (m : MarkedOnce marks (lead i) next r) (left : r ≡ false) where
      same_size : length next ≡ size
      same_size = ap length (m.put left) ∙ length-set marks (lead i) 1 ∙ w.sized

      marked_one : (c : ℕ) → (get_or next c 0 ≡ 0 → ⊥) → (j : ℕ) × (j < i + 1) × (lead j ≡ c)
      marked_one c ne = elim (ℕ_discrete c (lead i)) [
        | yes e ↦ (i, omega arith, sym e)
        | no d ↦
            let (j, l, e) = w.seen c (λ z. ne (ap (λ (x : List ℕ). get_or x c 0) (m.put left) ∙ get_or-set_other marks (lead i) c 1 0 d ∙ z)) in
            (j, omega arith, e)
      ]

      -- it fits
      module _ (good : good_lookup s (lead i) ≡ true) {y : Bool} (f : y ≡ to_rewrite s t (lead i)) where
        one_named : y ≡ true → Looked next true (i + 1)
        one_named z =
            record {
              upto = omega arith;
              sized = same_size;
              fitting = all_more fits i w.fitting good;
              naming = ap not (sym (all_fails passes i (i + 1) (omega arith) (ap not (sym f ∙ z))));
              seen = marked_one;
            }

        one_other : y ≡ false → Looked next named (i + 1)
        one_other z =
            record {
              upto = omega arith;
              sized = same_size;
              fitting = all_more fits i w.fitting good;
              naming = w.naming ∙ ap not (sym (all-keeps passes i (λ a. ap not (sym f ∙ z))));
              seen = marked_one;
            }

        pub one_more : Looked next (named || y) (i + 1)
        one_more = by_test y (λ z. rw (z, or_true named) (one_named z)) (λ z. rw (z, or_false named) (one_other z))

  pub stop : {marks : List ℕ} {named : Bool} {i : ℕ} → Looked marks named i → n ≤ i → named ≡ fit_and_name s t lead n
  stop {i = i} w h =
      let e : i ≡ n = omega (arith, w.upto) in
      let f : all fits n ≡ true = ap (all fits) (sym e) ∙ w.fitting in
      w.naming ∙ ap (λ (k : ℕ). not (all passes k)) e ∙ sym (ap (λ (b : Bool). b && not (all passes n)) f)
