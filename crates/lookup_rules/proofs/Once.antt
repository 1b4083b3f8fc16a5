-- "each once", number by number, and what all numbers of a list pass. Assumes nothing.
use Prim.Native.Nat.{ℕ, ◌+◌, ◌≤◌, ◌<◌}
use mathlib.Core.Path.{◌≡◌, refl, sym, ap, ◌∙◌}
use mathlib.Core.Bool.{Bool, true, false, cond, not, ◌||◌}
use mathlib.Core.List.{List, [], ◌∷◌, ◌++◌, append-nil}
use native.Mathlib.Omega.{arith}
use native.Mathlib.Decide.{ℕ_discrete}
use lib.ListN.{length, get_or, length-append}
use lib.Dec.{eqb}
use borrow.Author.Tests.{eq-eqb, ne_eqb, not-true}
use Rattle.folds.specs.Folds.{all, flat, upto}
use Rattle.folds.specs.Lists.{among, sift, is_empty}
use Rattle.folds.proofs.Tests.{true_false, by_test, by_index}
use Rattle.folds.proofs.Agree.{both_ways}
use Rattle.folds.proofs.Folds.{all_at_lem, all_intro, flat-more, length-upto}
use Rattle.folds.proofs.FromTheFront.{upto-at}
use Rattle.folds.proofs.Failing.{all_same}
use Rattle.folds.proofs.Among.{among-more, among-at}
use Rattle.folds.proofs.Picked.{sift-append}
use Rattle.folds.proofs.Sums.{sum-zero}
use Rattle.folds.proofs.Tally.{count, tally_same, tally_one, count_le}
use Rattle.folds.proofs.Each.{Each, each_at, each_of, each_among, among_each}
use Rattle.lookup_rules.specs.Listed.{each_once}
use Rattle.lookup_rules.proofs.Slots.{among-once, each_once_lem}

or_false : (b : Bool) → (b || false) ≡ b
or_false true = refl
or_false false = refl

-- one number more: it is left out where it is there
pub once_more : (x : ℕ) (xs : List ℕ) → each_once (xs ++ (x ∷ [])) ≡ each_once xs ++ cond (among x xs) [] (x ∷ [])
unfolding each_once among sift
once_more x [] = refl
once_more x (y ∷ ys) =
    ap (λ (zs : List ℕ). y ∷ sift (λ z. not (eqb y z)) zs) (once_more x ys)
    ∙ ap (λ (zs : List ℕ). y ∷ zs)
    (sift-append (λ z. not (eqb y z)) (each_once ys) (cond (among x ys) [] (x ∷ []))
    ∙ ap (λ (zs : List ℕ). sift (λ z. not (eqb y z)) (each_once ys) ++ zs) (last (among x ys) (ℕ_discrete x y)))
  where
    last : (b : Bool) → Dec (x ≡ y) → sift (λ z. not (eqb y z)) (cond b [] (x ∷ [])) ≡ cond (cond (eqb x y) true b) [] (x ∷ [])
    last true (yes e) = rw (eq-eqb x y e)
    last true (no ne) = rw (ne_eqb x y ne)
    last false (yes e) = rw (eq-eqb x y e, eq-eqb y x (sym e))
    last false (no ne) = rw (ne_eqb x y ne, ne_eqb y x (λ e. ne (sym e)))

module _ (f : ℕ → ℕ) where
  -- the same, index by index
  pub once_seen : (i : ℕ) → among (f i) (upto f i) ≡ true → each_once (upto f (i + 1)) ≡ each_once (upto f i)
  once_seen i h =
      ap each_once (flat-more (λ k. f k ∷ []) i) ∙ once_more (f i) (upto f i)
      ∙ ap (λ (b : Bool). each_once (upto f i) ++ cond b [] (f i ∷ [])) h ∙ append-nil (each_once (upto f i))

  pub once_new : (i : ℕ) → among (f i) (upto f i) ≡ false → each_once (upto f (i + 1)) ≡ each_once (upto f i) ++ (f i ∷ [])
  once_new i h =
      ap each_once (flat-more (λ k. f k ∷ []) i) ∙ once_more (f i) (upto f i)
      ∙ ap (λ (b : Bool). each_once (upto f i) ++ cond b [] (f i ∷ [])) h

  -- another number is there as before
  pub among-other : (i c : ℕ) → (c ≡ f i → ⊥) → among c (upto f (i + 1)) ≡ among c (upto f i)
  among-other i c ne = among-more f c i ∙ ap (λ (b : Bool). among c (upto f i) || b) (ne_eqb c (f i) ne) ∙ or_false (among c (upto f i))

  -- and so is each where none is new
  pub among_same : (i : ℕ) → among (f i) (upto f i) ≡ true → (c : ℕ) → among c (upto f (i + 1)) ≡ among c (upto f i)
  among_same i h c = elim (ℕ_discrete c (f i)) [
    | yes e ↦ ap (λ (x : ℕ). among x (upto f (i + 1))) e ∙ among-at f (i + 1) i (omega arith) ∙ sym (ap (λ (x : ℕ). among x (upto f i)) e ∙ h)
    | no ne ↦ among-other i c ne
  ]

  -- of numbers below n there are each once as many as are there at all
  once_counted : (n i : ℕ) → ((j : ℕ) → j < i → f j < n) → length (each_once (upto f i)) ≡ count (λ c. among c (upto f i)) n
  unfolding flat each_once among
  once_counted n =
      by_index (λ i. ((j : ℕ) → j < i → f j < n) → length (each_once (upto f i)) ≡ count (λ c. among c (upto f i)) n)
      (λ h. sym (sum-zero (λ c. 0) n (λ k l. refl)))
      (λ i ih h.
      let before = ih (λ j l. h j (omega arith)) in
      by_test (among (f i) (upto f i))
      (λ e.
      ap length (once_seen i e) ∙ before
      ∙ sym (tally_same (λ k. 1) (λ c. among c (upto f (i + 1))) (λ c. among c (upto f i)) n (λ c l. among_same i e c)))
      (λ e.
      let more = tally_one (λ k. 1) (λ c. among c (upto f i)) (λ c. among c (upto f (i + 1))) (f i) n (h i (omega arith)) e
      (among-at f (i + 1) i (omega arith)) (λ c l ne. among-other i c ne) in
      omega (arith, ap length (once_new i e), length-append (each_once (upto f i)) (f i ∷ []))))

  pub once_few : (n i : ℕ) → ((j : ℕ) → j < i → f j < n) → length (each_once (upto f i)) ≤ n
  once_few n i h = omega (arith, once_counted n i h, count_le (λ c. among c (upto f i)) n)

-- ---- a test of all numbers of a list

module _ (p : ℕ → Bool) where
  -- each number of the list passes
  abbrev pub tested : List ℕ → Bool
  tested xs = all (λ m. p (get_or xs m 0)) (length xs)

  pub tested_each : (xs : List ℕ) → tested xs ≡ true → Each (λ x. p x ≡ true) xs
  tested_each xs h = each_of (λ x. p x ≡ true) xs 0 (all_at_lem (λ m. p (get_or xs m 0)) (length xs) h)

  pub each_tested : (xs : List ℕ) → Each (λ x. p x ≡ true) xs → tested xs ≡ true
  each_tested xs a = all_intro (λ m. p (get_or xs m 0)) (length xs) (λ m l. each_at (λ x. p x ≡ true) xs a m l 0)

  -- of each once, or as often as they stand there
  pub tested_once : (xs : List ℕ) → tested (each_once xs) ≡ tested xs
  tested_once xs =
      let P : ℕ → Type 0 = λ x. p x ≡ true in
      both_ways (tested (each_once xs)) (tested xs)
      (λ h. each_tested xs (among_each P xs (λ x k. each_among P (each_once xs) x (tested_each (each_once xs) h) (among-once x xs k))))
      (λ h. each_tested (each_once xs) (each_once_lem P xs (tested_each xs h)))

  pub tested_upto : (f : ℕ → ℕ) (n : ℕ) → tested (upto f n) ≡ all (λ j. p (f j)) n
  tested_upto f n =
      ap (all (λ m. p (get_or (upto f n) m 0))) (length-upto f n)
      ∙ all_same (λ m. p (get_or (upto f n) m 0)) (λ j. p (f j)) n (λ j l. ap p (upto-at f n j 0 l))

-- none is picked where each fails
pub none_picked : (p : ℕ → Bool) (xs : List ℕ) → is_empty (sift p xs) ≡ tested (λ x. not (p x)) xs
unfolding sift is_empty
none_picked p xs =
    both_ways (is_empty (sift p xs)) (tested (λ x. not (p x)) xs)
    (λ h. each_tested (λ x. not (p x)) xs (fail xs h))
    (λ h. empty xs (tested_each (λ x. not (p x)) xs h))
  where
    fail : (ys : List ℕ) → is_empty (sift p ys) ≡ true → Each (λ x. not (p x) ≡ true) ys
    fail [] h = tt
    fail (y ∷ ys) h = go (p y) refl h (fail ys)
      where
        go : (b : Bool) → p y ≡ b → is_empty (cond b (y ∷ sift p ys) (sift p ys)) ≡ true → (is_empty (sift p ys) ≡ true → Each (λ x. not (p x) ≡ true) ys)
            → (not (p y) ≡ true) × Each (λ x. not (p x) ≡ true) ys
        go true e k ih = true_false (sym k)
        go false e k ih = (rw e, ih k)

    empty : (ys : List ℕ) → Each (λ x. not (p x) ≡ true) ys → is_empty (sift p ys) ≡ true
    empty [] a = refl
    empty (y ∷ ys) a = rw (not-true (p y) a.0) (empty ys a.1)
