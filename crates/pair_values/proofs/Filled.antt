-- A list that is filled from the front, one element a turn. Assumes nothing.
use Prim.Native.Nat.{ℕ, ◌+◌, ◌-◌, ◌≤◌, ◌<◌}
use mathlib.Core.Path.{◌≡◌, sym, ap, ◌∙◌}
use mathlib.Core.List.{List, ◌++◌}
use native.Mathlib.Omega.{arith}
use lib.ListN.{length, get_or, set, length-set, length-append, get_or-append}
use lib.Seq.{get_or-set_same, get_or-set_other, get_or-append-add, ext_get_or}
use Rattle.folds.specs.Folds.{upto}
use Rattle.folds.proofs.Folds.{length-upto}
use Rattle.folds.proofs.FromTheFront.{upto-at, upto_get_d}
use borrow.Author.Count.{below_more}

module _ {A : Type 0} (d : A) (f : ℕ → A) (n : ℕ) where
  -- the first j of the n elements are those of f
  pub record Filled (xs : List A) (j : ℕ) : Type 0 where
    pub long : length xs ≡ n
    pub done : (k : ℕ) → k < j → get_or xs k d ≡ f k

  pub unfilled : {xs : List A} → length xs ≡ n → Filled xs 0
  unfilled e = record { long = e; done = λ k l. absurd (omega arith) }

  pub fill : {xs : List A} {j : ℕ} {v : A} → Filled xs j → j < n → v ≡ f j → Filled (set xs j v) (j + 1)
  fill {xs} {j} {v} i l e =
      record {
        long = length-set xs j v ∙ i.long;
        done = below_more (λ k. get_or (set xs j v) k d ≡ f k) j
            (λ k h. get_or-set_other xs j k v d (λ z. omega arith) ∙ i.done k h)
            (get_or-set_same xs j v d (omega (arith, i.long)) ∙ e);
      }

  pub full : {xs : List A} {j : ℕ} → Filled xs j → n ≤ j → xs ≡ upto f n
  full {xs} {j} i g =
      ext_get_or d xs (upto f n) (i.long ∙ sym (length-upto f n))
      (λ k h. let l : k < n = omega (arith, i.long) in i.done k (omega arith) ∙ sym (upto-at f n k d l))

-- ---- two lists in a row

module _ {A : Type 0} (d : A) (n : ℕ) (xs ys : List A) (e : length xs ≡ n) where
  pub of_first : (j : ℕ) → j < n → get_or xs j d ≡ get_or (xs ++ ys) j d
  of_first j l = sym (get_or-append xs ys d j (omega arith))

  pub of_second : (j : ℕ) → n ≤ j → get_or ys (j - n) d ≡ get_or (xs ++ ys) j d
  of_second j l =
      let z : length xs + (j - n) ≡ j = omega arith in
      sym (get_or-append-add xs ys (j - n) d) ∙ ap (λ (k : ℕ). get_or (xs ++ ys) k d) z

  pub both_full : {m : ℕ} {zs : List A} → length ys ≡ m → zs ≡ upto (λ k. get_or (xs ++ ys) k d) (n + m) → zs ≡ xs ++ ys
  both_full {m} f h =
      let z : length (xs ++ ys) ≡ n + m = omega (arith, length-append xs ys) in
      h ∙ ap (λ (k : ℕ). upto (λ i. get_or (xs ++ ys) i d) k) (sym z) ∙ upto_get_d (xs ++ ys) d
