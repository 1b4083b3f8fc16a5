-- Lists in a row: one behind another, and how long they are. Assumes nothing.
use Prim.Native.Nat.{ℕ, zero, suc, ◌+◌}
use mathlib.Core.Path.{◌≡◌, refl, sym, ap, ◌∙◌}
use mathlib.Core.List.{List, [], ◌∷◌, ◌++◌, append_assoc}
use native.Mathlib.Omega.{arith}
use lib.ListN.{length, length-append}
use Rattle.folds.specs.Folds.{sum, flat}
use Rattle.folds.specs.Lists.{join}

pub join-append : (xs ys : List (List ℕ)) → join (xs ++ ys) ≡ join xs ++ join ys
unfolding join
join-append [] ys = refl
join-append (x ∷ xs) ys = ap (λ (l : List ℕ). x ++ l) (join-append xs ys) ∙ sym (append_assoc x (join xs) (join ys))

pub join_long : (xs ys : List (List ℕ)) → length (join (xs ++ ys)) ≡ length (join xs) + length (join ys)
join_long xs ys = ap length (join-append xs ys) ∙ length-append (join xs) (join ys)

pub join-cons : (x : List ℕ) (xs : List (List ℕ)) → length (join (x ∷ xs)) ≡ length x + length (join xs)
unfolding join
join-cons x xs = length-append x (join xs)

pub join_one : (x : List ℕ) → length (join (x ∷ [])) ≡ length x
unfolding join
join_one x = omega (arith, length-append x [])

pub join_two : (x y : List ℕ) → length (join (x ∷ y ∷ [])) ≡ length x + length y
join_two x y = omega (arith, join-cons x (y ∷ []), join_one y)

pub join-flat : (f : ℕ → List (List ℕ)) (n : ℕ) → length (join (flat f n)) ≡ sum (λ j. length (join (f j))) n
unfolding flat sum join
join-flat f zero = refl
join-flat f (suc n) = join_long (flat f n) (f n) ∙ ap (λ (x : ℕ). x + length (join (f n))) (join-flat f n)
