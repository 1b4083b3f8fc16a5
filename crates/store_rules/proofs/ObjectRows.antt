-- The rows of objects that are packed one behind the other. Assumes nothing.
use Prim.Native.Nat.{ℕ, zero, suc, ◌+◌, ◌*◌, ◌<◌}
use mathlib.Core.Path.{◌≡◌, refl, ap, ◌∙◌}
use mathlib.Core.List.{List, [], ◌∷◌, ◌++◌}
use native.Mathlib.Omega.{arith}
use native.Mathlib.Nat.{not-suc-le-zero}
use lib.ListN.{length, get_or, length-append}
use Rattle.folds.specs.Lists.{join}
use Rattle.folds.proofs.Offsets.{offset}
use Rattle.store_rules.specs.Appended.{rows_from}

pub rows_length : (at : ℕ) (xs : List (List ℕ)) → length (rows_from at xs) ≡ 2 * length xs
unfolding rows_from
rows_length at [] = refl
rows_length at (x ∷ xs) = omega (arith, rows_length (at + length x) xs)

pub rows_append : (at : ℕ) (xs ys : List (List ℕ)) → rows_from at (xs ++ ys) ≡ rows_from at xs ++ rows_from (at + length (join xs)) ys
unfolding rows_from join
rows_append at [] ys = let e : at ≡ at + 0 = omega arith in ap (λ (n : ℕ). rows_from n ys) e
rows_append at (x ∷ xs) ys =
    let e : at + length x + length (join xs) ≡ at + length (x ++ join xs) = omega (arith, length-append x (join xs)) in
    ap (λ (r : List ℕ). at ∷ (at + length x) ∷ r) (rows_append (at + length x) xs ys ∙ ap (λ (n : ℕ). rows_from (at + length x) xs ++ rows_from n ys) e)

two_on : (m : ℕ) → 2 * suc m ≡ suc (suc (2 * m))
two_on m = omega arith

pub row_head : (at : ℕ) (xs : List (List ℕ)) (m : ℕ) → m < length xs → get_or (rows_from at xs) (2 * m) 0 ≡ at + offset xs m
unfolding rows_from
row_head at [] m h = absurd (not-suc-le-zero h)
row_head at (x ∷ xs) zero h = omega arith
row_head at (x ∷ xs) (suc m) h = ap (λ (n : ℕ). get_or (rows_from at (x ∷ xs)) n 0) (two_on m) ∙ row_head (at + length x) xs m (omega arith) ∙ omega arith

pub row_tail : (at : ℕ) (xs : List (List ℕ)) (m : ℕ) → m < length xs → get_or (rows_from at xs) (2 * m + 1) 0 ≡ at + offset xs m + length (get_or xs m [])
unfolding rows_from
row_tail at [] m h = absurd (not-suc-le-zero h)
row_tail at (x ∷ xs) zero h = omega arith
row_tail at (x ∷ xs) (suc m) h =
    let e : 2 * suc m + 1 ≡ suc (suc (2 * m + 1)) = omega arith in
    ap (λ (n : ℕ). get_or (rows_from at (x ∷ xs)) n 0) e ∙ row_tail (at + length x) xs m (omega arith) ∙ omega arith
