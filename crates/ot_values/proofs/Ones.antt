-- The ones of a masked format are its fields below a row of the table. Assumes nothing.
use Prim.Native.Nat.{ℕ, zero, suc, ◌+◌, ◌-◌, ◌*◌, ◌/◌, ◌%◌, ◌^◌, ◌<◌, ◌≤◌}
use mathlib.Core.Path.{◌≡◌, refl, sym, ap, ap₂, ◌∙◌}
use native.Mathlib.Nat.{mod-lt}
use native.Mathlib.Omega.{arith}
use lib.Bits.{bit_and, and_mask}
use lib.Count.{ones, ones_cat}
use lib.Dec.{eqb}
use lib.Pow.{pow_pos, mod-pow-add}
use borrow.Author.Tests.{eq-eqb, ne_eqb}
use Rattle.folds.specs.Folds.{sum}
use Rattle.folds.proofs.Bits.{masked_bit}
use Rattle.folds.proofs.FromTheFront.{sum_same}
use Rattle.ot_layouts.specs.Values.{bit, position}
use Rattle.ot_layouts.proofs.Values.{bit_digit, position_le, position_all, field_count_le}

ones_digit : (d : ℕ) → d < 2 → ones d ≡ d
unfolding ones
ones_digit zero h = refl
ones_digit (suc zero) h = refl
ones_digit (suc (suc d)) h = let no : ⊥ = omega arith in absurd no

-- the low k digits, one by one
low_ones : (x k : ℕ) → ones (x % 2 ^ k) ≡ sum (λ j. x / 2 ^ j % 2) k
unfolding sum
low_ones x zero = ap ones (omega arith) ∙ ones_digit 0 (omega arith)
low_ones x (suc k) =
    let e : suc k ≡ 1 + k = omega arith in
    ap (λ (n : ℕ). ones (x % 2 ^ n)) e
    ∙ ap ones (mod-pow-add x 1 k)
    ∙ ones_cat k (x / 2 ^ k % 2) (x % 2 ^ k) (mod-lt x (pow_pos k))
    ∙ ap₂ (λ (a b : ℕ). a + b) (ones_digit (x / 2 ^ k % 2) (omega arith)) (low_ones x k)
    ∙ omega arith

pub masked_ones : (vf j : ℕ) → j ≤ 8 → ones (bit_and vf (2 ^ j - 1)) ≡ position vf j
unfolding position
masked_ones vf j h =
    ap ones (and_mask vf j) ∙ low_ones vf j
    ∙ sum_same (λ i. vf / 2 ^ i % 2) (bit vf) j (λ i l. sym (bit_digit vf i (omega arith)))

pub position_fits_lem : (vf j : ℕ) → j ≤ 8 → position vf j ≤ 8
position_fits_lem vf j h = omega (arith, position_le vf j 8 h, position_all vf, field_count_le vf)

-- ---- one bit

digit_test : (d m : ℕ) → d < 2 → 0 < m → eqb (d * m) m ≡ eqb d 1
digit_test zero m h l = ne_eqb (0 * m) m (omega arith)
digit_test (suc zero) m h l = eq-eqb (1 * m) m (omega arith)
digit_test (suc (suc d)) m h l = let no : ⊥ = omega arith in absurd no

-- the format has the bit of row j
pub bit_test : (vf j m : ℕ) → j < 8 → m ≡ 2 ^ j → eqb (bit_and vf m) m ≡ eqb (bit vf j) 1
bit_test vf j m h e =
    ap (λ (x : ℕ). eqb (bit_and vf x) x) e
    ∙ ap (λ (x : ℕ). eqb x (2 ^ j)) (masked_bit vf j)
    ∙ digit_test (vf / 2 ^ j % 2) (2 ^ j) (omega arith) (pow_pos j)
    ∙ ap (λ (x : ℕ). eqb x 1) (sym (bit_digit vf j h))
