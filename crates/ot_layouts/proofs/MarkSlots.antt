-- The slots of a mark array and of a base array, and the class that each belongs to. Assumes nothing.
use Prim.Native.Nat.{ℕ, ◌+◌, ◌-◌, ◌*◌, ◌/◌, ◌%◌, ◌<◌}
use mathlib.Core.Path.{◌≡◌, ap, ◌∙◌}
use mathlib.Core.Bool.{true}
use mathlib.Core.List.{List}
use native.Mathlib.Omega.{arith}
use native.Mathlib.Nat.{div-add-mod, mul-mod_right, mul-div_cancel_left, mul-add-mod_self_right, mod-eq_of_lt}
use lib.Dec.{leb, eqb}
use borrow.Author.Tests.{leb-true, eqb-true, le-leb, eq-eqb}
use Rattle.folds.proofs.Tests.{and_both, and_intro}
use Rattle.ot_layouts.specs.Numbers.{u16_at}
use Rattle.ot_layouts.specs.MarkBasePos.{mark_class, mark_slot, is_mark_slot, class_before, base_slot, is_base_slot, column_at}

-- ---- of a mark array

pub mark_slot_lem : (q : ℕ) → is_mark_slot q ≡ true → (i : ℕ) × (q ≡ mark_slot i)
unfolding is_mark_slot
mark_slot_lem q h =
    let (a, b) = and_both (leb 4 q) (eqb (q % 4) 0) h in
    let low = leb-true 4 q a in
    let even = eqb-true (q % 4) 0 b in
    let parts = div-add-mod q 4 in
    (q / 4 - 1, omega arith)

pub is_mark_slot_lem : (i : ℕ) → is_mark_slot (mark_slot i) ≡ true
unfolding is_mark_slot
is_mark_slot_lem i =
    let z : mark_slot i ≡ 4 * (i + 1) = omega arith in
    and_intro (leb 4 (mark_slot i)) (eqb (mark_slot i % 4) 0) (le-leb 4 (mark_slot i) (omega arith))
    (eq-eqb (mark_slot i % 4) 0 (ap (λ (n : ℕ). n % 4) z ∙ mul-mod_right 4 (i + 1)))

pub class_before_lem : (b : List ℕ) (i : ℕ) → class_before b (mark_slot i) ≡ mark_class b i
class_before_lem b i = ap (u16_at b) (omega arith)

-- ---- of a base array

pub base_slot_lem : (q : ℕ) → is_base_slot q ≡ true → (k : ℕ) × (q ≡ base_slot k)
unfolding is_base_slot
base_slot_lem q h =
    let (a, b) = and_both (leb 2 q) (eqb (q % 2) 0) h in
    let low = leb-true 2 q a in
    let even = eqb-true (q % 2) 0 b in
    let parts = div-add-mod q 2 in
    (q / 2 - 1, omega arith)

pub is_base_slot_lem : (k : ℕ) → is_base_slot (base_slot k) ≡ true
unfolding is_base_slot
is_base_slot_lem k =
    let z : base_slot k ≡ 2 * (k + 1) = omega arith in
    and_intro (leb 2 (base_slot k)) (eqb (base_slot k % 2) 0) (le-leb 2 (base_slot k) (omega arith))
    (eq-eqb (base_slot k % 2) 0 (ap (λ (n : ℕ). n % 2) z ∙ mul-mod_right 2 (k + 1)))

pub column_slot : (n k : ℕ) → column_at n (base_slot k) ≡ k % n
column_slot n k =
    let x : base_slot k - 2 ≡ 2 * k = omega arith in
    ap (λ (m : ℕ). m / 2 % n) x ∙ ap (λ (m : ℕ). m % n) (mul-div_cancel_left k {n = 2} (omega arith))

-- base j has its slot for class c at j·n + c
pub column_of : (n j c : ℕ) → c < n → column_at n (base_slot (j * n + c)) ≡ c
column_of n j c h = column_slot n (j * n + c) ∙ mul-add-mod_self_right j n c ∙ mod-eq_of_lt h
