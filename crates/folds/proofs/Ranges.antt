-- A test of each number of a range, as an iterator makes it, and the same test by the index. Assumes nothing.
use Rattle.std.proofs.Common.{◌≡◌, ℕ, zero, suc, ◌+◌, Bool, true, false, ◌&&◌, arith, refl, ap, ◌∙◌}
use Rattle.std.specs.List.{range_with_len, list_all}
use Rattle.folds.specs.Folds.{all}

and_grouped : (a b c : Bool) → a && (b && c) ≡ (a && b) && c
and_grouped true b c = refl
and_grouped false b c = refl

and-true : (a : Bool) → a && true ≡ a
and-true true = refl
and-true false = refl

-- one number more
range_more : (p : ℕ → Bool) (a n : ℕ) → list_all p (range_with_len a (suc n)) ≡ list_all p (range_with_len a n) && p (a + n)
range_more p a zero = let e : a ≡ a + 0 = omega arith in and-true (p a) ∙ ap p e
range_more p a (suc n) =
    let e : a + 1 + n ≡ a + suc n = omega arith in
    ap (λ (b : Bool). p a && b) (range_more p (a + 1) n)
    ∙ and_grouped (p a) (list_all p (range_with_len (a + 1) n)) (p (a + 1 + n))
    ∙ ap (λ (i : ℕ). p a && list_all p (range_with_len (a + 1) n) && p i) e

pub all_range : (p : ℕ → Bool) (n : ℕ) → list_all p (range_with_len 0 n) ≡ all p n
unfolding all
all_range p zero = refl
all_range p (suc n) = let e : 0 + n ≡ n = omega arith in range_more p 0 n ∙ rw (all_range p n, e)
