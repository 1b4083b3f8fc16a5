-- Links as the numbers of their rows, in a row by an index. Assumes nothing.
use Prim.Native.Nat.{ℕ, zero, suc}
use mathlib.Core.Path.{◌≡◌, refl, ap, ap₂, ◌∙◌}
use mathlib.Core.Bool.{Bool, true, false, cond}
use mathlib.Core.List.{List, [], ◌∷◌, ◌++◌, map, map-append}
use Rattle.folds.specs.Folds.{flat, upto}
use Rattle.folds.specs.Lists.{sift}
use Rattle.folds.proofs.Picked.{sift-append}
use Rattle.store_rules.specs.Store.{Link}
use Rattle.store_rules.specs.Appended.{numbers_of, row_numbers}

pub numbers_append : (xs ys : List Link) → row_numbers (xs ++ ys) ≡ row_numbers xs ++ row_numbers ys
unfolding row_numbers
numbers_append [] ys = refl
numbers_append (x ∷ xs) ys = ap (λ (r : List ℕ). numbers_of x ++ r) (numbers_append xs ys)

pub numbers_flat : (f : ℕ → List Link) (n : ℕ) → row_numbers (flat f n) ≡ flat (λ j. row_numbers (f j)) n
unfolding row_numbers flat
numbers_flat f zero = refl
numbers_flat f (suc n) = numbers_append (flat f n) (f n) ∙ ap (λ (r : List ℕ). r ++ row_numbers (f n)) (numbers_flat f n)

-- links that come by an index, sifted and changed
module _ (f : Link → Link) (p : Link → Bool) (g : ℕ → Link) where
  pub numbers_sifted : (n : ℕ) → row_numbers (map f (sift p (upto g n))) ≡ flat (λ k. cond (p (g k)) (numbers_of (f (g k))) []) n
  unfolding row_numbers flat sift
  numbers_sifted zero = refl
  numbers_sifted (suc n) =
      ap (λ (r : List Link). row_numbers (map f r)) (sift-append p (upto g n) (g n ∷ []))
      ∙ ap row_numbers (map-append f (sift p (upto g n)) (sift p (g n ∷ [])))
      ∙ numbers_append (map f (sift p (upto g n))) (map f (sift p (g n ∷ [])))
      ∙ ap₂ (λ (x y : List ℕ). x ++ y) (numbers_sifted n) (last (p (g n)))
    where
      last : (b : Bool) → row_numbers (map f (cond b (g n ∷ []) [])) ≡ cond b (numbers_of (f (g n))) []
      last true = refl
      last false = refl
