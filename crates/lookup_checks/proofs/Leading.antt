-- Rows one behind the other that are looked through for a child. Assumes nothing.
use Prim.Native.Nat.{ℕ, zero, suc, ◌+◌, ◌<◌}
use mathlib.Core.Path.{◌≡◌, refl, sym, ap, subst, ◌∙◌}
use mathlib.Core.Bool.{Bool, true, false}
use native.Mathlib.Omega.{arith}
use lib.ListN.{length}
use borrow.Author.Tests.{ne_eqb}
use Rattle.std.specs.Bool.{MatchBool}
use Rattle.std.specs.List.{range_with_len, AllWithin, HoldsAt}
use Rattle.std.proofs.lemmas.List.FromFn.{length-range_with_len, get_or-range_with_len}
use Rattle.folds.specs.Folds.{flat, upto}
use Rattle.folds.specs.Lists.{among}
use Rattle.folds.proofs.Among.{among-more, among-at}

module _ (f : ℕ → ℕ) (x : ℕ) where
  -- x is none of the first n
  none_met : (n : ℕ) → ((i : ℕ) → i < n → f i ≡ x → ⊥) → among x (upto f n) ≡ false
  unfolding flat among
  none_met zero h = refl
  none_met (suc n) h =
      let e : n + 1 ≡ suc n = omega arith in
      ap (λ (m : ℕ). among x (upto f m)) (sym e) ∙ among-more f x n
      ∙ rw (none_met n (λ i l. h i (omega arith)), ne_eqb x (f n) (λ e. h n (omega arith) (sym e)))

-- whether one of the n rows from a on leads to x
pub led_to : (f : ℕ → ℕ) (x a n : ℕ) (r : Bool)
    → MatchBool r ((k : ℕ) × (k < length (range_with_len a n)) × HoldsAt (λ y. f y ≡ x) (range_with_len a n) k) (AllWithin (λ y. f y ≡ x → ⊥) (range_with_len a n) 0 (length (range_with_len a n)))
    → r ≡ among x (upto (λ i. f (a + i)) n)
led_to f x a n true (k, h, e) =
    let low : k < n = omega (arith, length-range_with_len a n) in
    let here : f (a + k) ≡ x = ap f (sym (get_or-range_with_len a n k 0 low)) ∙ e 0 in
    sym (subst (λ (y : ℕ). among y (upto (λ i. f (a + i)) n) ≡ true) here (among-at (λ i. f (a + i)) n k low))
led_to f x a n false h =
    sym (none_met (λ i. f (a + i)) x n (λ i l e. h i 0 (omega arith) (omega (arith, length-range_with_len a n)) (ap f (get_or-range_with_len a n i 0 l) ∙ e)))
