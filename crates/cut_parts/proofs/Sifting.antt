-- Those of a list that pass a test: where they stand together, and through a function over the list. Assumes nothing.
use Prim.Native.Nat.{ℕ, zero, suc, ◌+◌, ◌-◌, ◌<◌, ◌≤◌}
use mathlib.Core.Path.{◌≡◌, refl, sym, ap, ap₂, ◌∙◌}
use mathlib.Core.Bool.{Bool, true, false, cond}
use mathlib.Core.List.{List, [], ◌∷◌, ◌++◌, map, append-nil}
use native.Mathlib.Omega.{arith}
use lib.ListN.{length, get_or, take, drop, length-drop, take-append-drop}
use lib.Seq.{get_or-take, get_or-drop, length-take-le}
use Rattle.folds.specs.Lists.{sift, part}
use Rattle.folds.proofs.Tests.{by_test}
use Rattle.folds.proofs.Picked.{sift-append}
use Rattle.folds.proofs.Moved.{length-map, sift-all}
use Rattle.folds.proofs.Each.{Each, each_of}

module _ {A : Type 0} where
  sift_none : (p : A → Bool) (xs : List A) → Each (λ x. p x ≡ false) xs → sift p xs ≡ []
  unfolding sift
  sift_none p [] a = refl
  sift_none p (x ∷ xs) a = rw a.0 (sift_none p xs a.1)

  -- those that pass stand from a up to b
  module _ (p : A → Bool) (xs : List A) (d : A) (a b : ℕ) (l : a ≤ b) (h : b ≤ length xs) (low : (i : ℕ) → i < a → p (get_or xs i d) ≡ false)
      (middle : (i : ℕ) → a ≤ i → i < b → p (get_or xs i d) ≡ true) (high : (i : ℕ) → b ≤ i → i < length xs → p (get_or xs i d) ≡ false) where
    abbrev rest : List A
    rest = drop (b - a) (drop a xs)

    first_out : sift p (take a xs) ≡ []
    first_out =
        sift_none p (take a xs)
        (each_of (λ x. p x ≡ false) (take a xs) d
        (λ i m. let k : i < a = omega (arith, length-take-le a xs (omega arith)) in ap p (get_or-take a xs i d k) ∙ low i k))

    middle_in : sift p (part xs a b) ≡ part xs a b
    middle_in =
        sift-all p (part xs a b)
        (each_of (λ x. p x ≡ true) (part xs a b) d
        (λ i m.
        let k : i < b - a = omega (arith, length-take-le (b - a) (drop a xs) (omega (arith, length-drop a xs))) in
        ap p (get_or-take (b - a) (drop a xs) i d k ∙ get_or-drop a xs i d) ∙ middle (a + i) (omega arith) (omega arith)))

    last_out : sift p rest ≡ []
    last_out =
        sift_none p rest
        (each_of (λ x. p x ≡ false) rest d
        (λ i m. ap p (get_or-drop (b - a) (drop a xs) i d ∙ get_or-drop a xs (b - a + i) d) ∙ high (a + (b - a + i)) (omega arith) (omega (arith, length-drop (b - a) (drop a xs), length-drop a xs))))

    pub sift-part : sift p xs ≡ part xs a b
    sift-part =
        ap (sift p) (sym (take-append-drop a xs) ∙ ap (λ (y : List A). take a xs ++ y) (sym (take-append-drop (b - a) (drop a xs))))
        ∙ sift-append p (take a xs) (part xs a b ++ rest)
        ∙ ap₂ (λ (x y : List A). x ++ y) first_out (sift-append p (part xs a b) rest ∙ ap₂ (λ (x y : List A). x ++ y) middle_in last_out ∙ append-nil (part xs a b))

  -- two tests that agree on each
  pub sift_agrees : (p q : A → Bool) (xs : List A) → Each (λ x. p x ≡ q x) xs → sift p xs ≡ sift q xs
  unfolding sift
  sift_agrees p q [] a = refl
  sift_agrees p q (x ∷ xs) a = ap₂ (λ (b : Bool) (l : List A). cond b (x ∷ l) l) a.0 (sift_agrees p q xs a.1)

module _ {A B : Type 0} (f : A → B) where
  pub sift-map : (p : B → Bool) (xs : List A) → sift p (map f xs) ≡ map f (sift (λ x. p (f x)) xs)
  unfolding sift
  sift-map p [] = refl
  sift-map p (x ∷ xs) = by_test (p (f x)) (λ e. rw e (ap (λ (l : List B). f x ∷ l) (sift-map p xs))) (λ e. rw e (sift-map p xs))

  pub sift-many : (p : B → Bool) (xs : List A) → length (sift p (map f xs)) ≡ length (sift (λ x. p (f x)) xs)
  sift-many p xs = ap length (sift-map p xs) ∙ length-map f (sift (λ x. p (f x)) xs)

  map-take : (n : ℕ) (xs : List A) → take n (map f xs) ≡ map f (take n xs)
  map-take zero xs = refl
  map-take (suc n) [] = refl
  map-take (suc n) (x ∷ xs) = ap (λ (l : List B). f x ∷ l) (map-take n xs)

  map-drop : (n : ℕ) (xs : List A) → drop n (map f xs) ≡ map f (drop n xs)
  map-drop zero xs = refl
  map-drop (suc n) [] = refl
  map-drop (suc n) (x ∷ xs) = map-drop n xs

  pub part-map : (xs : List A) (a b : ℕ) → part (map f xs) a b ≡ map f (part xs a b)
  part-map xs a b = ap (take (b - a)) (map-drop a xs) ∙ map-take (b - a) (drop a xs)
