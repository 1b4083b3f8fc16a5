-- The new numbers: strictly ascending over what is kept, and the place of each kept object in the list of them, and in a row. Assumes nothing.
use Prim.Native.Nat.{ℕ, zero, suc, ◌≤◌, ◌<◌}
use mathlib.Core.Path.{◌≡◌, refl, sym, ap, ap₂, ◌∙◌}
use mathlib.Core.Bool.{Bool, true, false, cond}
use mathlib.Core.List.{List, [], ◌∷◌, ◌++◌, append_assoc}
use mathlib.Core.Logic.{⊎_elim}
use native.Mathlib.Omega.{arith}
use native.Mathlib.Nat.{not-suc-le-zero, eq-or-lt_of_le, le_of_suc-le-suc}
use native.Mathlib.Decide.{ℕ_discrete}
use lib.ListN.{length, get_or, get_or-append}
use lib.Dec.{eqb}
use lib.Seq.{get_or_at}
use borrow.Author.Tests.{eq-eqb, ne_eqb}
use Rattle.folds.specs.Folds.{sum}
use Rattle.folds.specs.Lists.{join}
use Rattle.folds.proofs.Tests.{by_test, either}
use Rattle.folds.proofs.Folds.{sum_le, flat_split}
use Rattle.folds.proofs.FromTheFront.{sum_same}
use Rattle.folds.proofs.Picked.{picked, piece, picked_in, picked_out, length-picked}
use Rattle.folds.proofs.Joining.{join-flat, join_one}
use Rattle.folds.proofs.Offsets.{offset, offset_behind}
use Rattle.folds.proofs.Tally.{count_le}
use Rattle.compact_rules.specs.Kept.{renumber}

module _ (keep : ℕ → Bool) where
  pub number_least : renumber keep 0 ≡ 0
  unfolding renumber sum
  number_least = refl

  -- one more behind a kept object
  pub number_kept_lem : (i : ℕ) → keep i ≡ true → renumber keep (suc i) ≡ suc (renumber keep i)
  unfolding renumber sum
  number_kept_lem i h = rw h (omega arith)

  pub number_dropped : (i : ℕ) → keep i ≡ false → renumber keep (suc i) ≡ renumber keep i
  unfolding renumber sum
  number_dropped i h = rw h (omega arith)

  pub number_le : (i j : ℕ) → i ≤ j → renumber keep i ≤ renumber keep j
  unfolding renumber
  number_le i j l = sum_le (λ j. cond (keep j) 1 0) i j l

  pub number_most : (i : ℕ) → renumber keep i ≤ i
  unfolding renumber
  number_most i = count_le keep i

  -- "in the old order"
  pub number_less : (i j : ℕ) → keep i ≡ true → i < j → renumber keep i < renumber keep j
  number_less i j h l = omega (arith, number_kept_lem i h, number_le (suc i) j l)

  pub number_own : (i j : ℕ) → keep i ≡ true → keep j ≡ true → renumber keep i ≡ renumber keep j → i ≡ j
  number_own i j p q e =
      ⊎_elim (λ lt. let x = number_less i j p lt in absurd (omega arith))
      (λ ge. ⊎_elim (λ lt. let x = number_less j i q lt in absurd (omega arith)) (λ le. omega arith) (either j i))
      (either i j)

  -- two kept objects have one number exactly if they are one
  pub number_same : (i j : ℕ) → keep i ≡ true → keep j ≡ true → eqb (renumber keep i) (renumber keep j) ≡ eqb i j
  number_same i j p q = go (ℕ_discrete i j)
    where
      go : Dec (i ≡ j) → eqb (renumber keep i) (renumber keep j) ≡ eqb i j
      go (yes e) = eq-eqb _ _ (ap (renumber keep) e) ∙ sym (eq-eqb i j e)
      go (no e) = ne_eqb _ _ (λ z. e (number_own i j p q z)) ∙ sym (ne_eqb i j e)

  -- each number below those that are given out is a kept object's
  pub number_from : (n m : ℕ) → m < renumber keep n → (i : ℕ) × (i < n) × (keep i ≡ true) × (renumber keep i ≡ m)
  number_from zero m h = absurd (omega (arith, number_least))
  number_from (suc n) m h =
      by_test (keep n)
      (λ e.
      ⊎_elim (λ z. (n, omega arith, e, sym z))
      (λ lt. let (i, a, b, c) = number_from n m lt in (i, omega arith, b, c))
      (eq-or-lt_of_le (let x = number_kept_lem n e in let y : m ≤ renumber keep n = omega arith in y)))
      (λ e. let (i, a, b, c) = number_from n m (omega (arith, number_dropped n e)) in (i, omega arith, b, c))

  -- where all are kept, each keeps its number
  pub number_all : (n : ℕ) → ((i : ℕ) → i < n → keep i ≡ true) → (i : ℕ) → i ≤ n → renumber keep i ≡ i
  number_all n h zero l = number_least
  number_all n h (suc i) l = number_kept_lem i (h i l) ∙ ap suc (number_all n h i (omega arith))

  -- ---- lists of what is kept

  module _ {A : Type 0} (f : ℕ → A) where
    pub picked-many : (n : ℕ) → length (picked keep f n) ≡ renumber keep n
    unfolding renumber
    picked-many n = length-picked keep f n

    -- what f gives at a kept index stands at its new number
    pub picked-at : (d : A) (n i : ℕ) → i < n → keep i ≡ true → get_or (picked keep f n) (renumber keep i) d ≡ f i
    picked-at d zero i l h = absurd (not-suc-le-zero l)
    picked-at d (suc n) i l h =
        by_test (keep n)
        (λ e.
        ap (λ (xs : List A). get_or xs (renumber keep i) d) (picked_in keep f n e)
        ∙ ⊎_elim (λ z. get_or_at (picked keep f n) (f n) [] d (renumber keep i) (picked-many n ∙ ap (renumber keep) (sym z)) ∙ ap f (sym z))
        (λ lt.
        get_or-append (picked keep f n) (f n ∷ []) d (renumber keep i) (omega (arith, picked-many n, number_less i n h lt))
        ∙ picked-at d n i lt h)
        (eq-or-lt_of_le (le_of_suc-le-suc l)))
        (λ e.
        ap (λ (xs : List A). get_or xs (renumber keep i) d) (picked_out keep f n e)
        ∙ picked-at d n i (below i n l h e) h)
      where
        below : (i n : ℕ) → i < suc n → keep i ≡ true → keep n ≡ false → i < n
        below i n l h e = ⊎_elim (λ z. absurd (never (sym (ap keep z ∙ e) ∙ h))) (λ lt. lt) (eq-or-lt_of_le (le_of_suc-le-suc l))
          where
            never : ◌≡◌ {A = Bool} false true → ⊥
            never z = let w : ◌≡◌ {A = ℕ} 0 1 = cc in omega arith

-- ---- lists in a row, of which some indices have theirs

module _ (keep : ℕ → Bool) (f : ℕ → List ℕ) where
  pub picked_long : (n : ℕ) → length (join (picked keep f n)) ≡ sum (λ i. cond (keep i) (length (f i)) 0) n
  unfolding join
  picked_long n = join-flat (piece keep f) n ∙ sum_same _ _ n (λ i l. one (f i) (keep i))
    where
      one : (x : List ℕ) (b : Bool) → length (join (cond b (x ∷ []) [])) ≡ cond b (length x) 0
      one x true = join_one x
      one x false = refl

  -- where the list of a kept index starts
  pub picked-offset : (n i : ℕ) → i < n → offset (picked keep f n) (renumber keep i) ≡ sum (λ j. cond (keep j) (length (f j)) 0) i
  picked-offset n i l =
      let (rest, e) = flat_split (piece keep f) i n l in
      ap₂ offset (e ∙ append_assoc (picked keep f i) (piece keep f i) rest) (sym (picked-many keep f i))
      ∙ offset_behind (picked keep f i) (piece keep f i ++ rest)
      ∙ picked_long i
