-- The slots of a base array, base by base. Assumes nothing.
use Prim.Native.Nat.{ℕ, zero, suc, ◌+◌, ◌-◌, ◌*◌, ◌/◌, ◌%◌, ◌<◌, ◌≤◌}
use mathlib.Core.Path.{◌≡◌, sym, ap, ap₂, ◌∙◌}
use mathlib.Core.List.{List, ◌++◌, append-nil, append_assoc}
use native.Mathlib.Nat.{
  mod-eq_of_lt,
  div-eq_of_lt,
  mul-add-div_right,
  mul-add-mod_self_right,
  mul-le-mul_right,
  mul-le-mul_left,
  add-mul,
}
use native.Mathlib.Omega.{arith}
use Rattle.folds.specs.Folds.{flat}
use Rattle.folds.proofs.FromTheFront.{flat-same}
use Rattle.ot_layouts.specs.MarkBasePos.{base_slot}
use Rattle.store_rules.specs.Store.{Link}
use Rattle.store_rules.specs.SlotLinks.{slot_links}
use Rattle.mark_links.specs.Copies.{slot_copy, old_slot, base_copy, base_copies}

-- ---- lists in a row, w at a time

flat_further : (f : ℕ → List Link) (m d : ℕ) → flat f (m + d) ≡ flat f m ++ flat (λ k. f (m + k)) d
unfolding flat
flat_further f m zero = let z : m + 0 ≡ m = omega arith in ap (flat f) z ∙ sym (append-nil (flat f m))
flat_further f m (suc d) =
    let z : m + suc d ≡ suc (m + d) = omega arith in
    ap (flat f) z ∙ ap (λ (x : List Link). x ++ f (m + d)) (flat_further f m d) ∙ append_assoc (flat f m) (flat (λ k. f (m + k)) d) (f (m + d))

flat_rows : (f : ℕ → List Link) (w n : ℕ) → flat f (n * w) ≡ flat (λ b. flat (λ c. f (b * w + c)) w) n
unfolding flat
flat_rows f w zero = let z : 0 * w ≡ 0 = omega arith in ap (flat f) z
flat_rows f w (suc n) =
    let z : suc n * w ≡ n * w + w = omega (arith, add-mul n 1 w) in
    ap (flat f) z ∙ flat_further f (n * w) w ∙ ap (λ (x : List Link). x ++ flat (λ c. f (n * w + c)) w) (flat_rows f w n)

-- the slot at i of row n
in_row : (w n i : ℕ) → i < w → ((n * w + i) / w ≡ n) × ((n * w + i) % w ≡ i)
in_row w n i l =
    (mul-add-div_right (omega arith) n i ∙ ap (λ (d : ℕ). n + d) (div-eq_of_lt l) ∙ omega arith, mul-add-mod_self_right n w i ∙ mod-eq_of_lt l)

-- ---- slots of the old array

-- those of base b stand within both arrays
pub base_below : (bases classes lo w b : ℕ) → lo + w ≤ classes → b < bases → (b * classes + lo + w ≤ bases * classes) × (b * w + w ≤ bases * classes)
base_below bases classes lo w b fits l =
    let up = mul-le-mul_right {m = b + 1} {n = bases} classes (omega arith) in
    let narrow = mul-le-mul_right {m = b + 1} {n = bases} w (omega arith) in
    let slots = mul-le-mul_left {m = w} {n = classes} bases (omega arith) in
    (omega (arith, up, add-mul b 1 classes), omega (arith, narrow, slots, add-mul b 1 w))

-- ---- turn by turn

-- slot k of one base
abbrev pub slot_turn : ℕ → ℕ → ℕ → ℕ → List Link → ℕ → List Link
slot_turn array first p slot old k = slot_copy old array (base_slot (first + k)) p (base_slot (slot + k))

-- base b of the new array p
abbrev pub base_turn : ℕ → ℕ → ℕ → ℕ → ℕ → List Link → ℕ → List Link
base_turn array classes lo w p old b = base_copy old array (b * classes + lo) w p (b * w)

pub by_base : (old : List Link) (array bases classes lo hi p : ℕ)
    → base_copies old array bases classes lo hi p ≡ flat (base_turn array classes lo (hi - lo) p old) bases
unfolding base_copies base_copy slot_links
by_base old array bases classes lo hi p =
    flat_rows slot w bases ∙ flat-same (λ b. flat (λ c. slot (b * w + c)) w) (base_turn array classes lo w p old) bases (λ b l. one_base b)
  where
    w : ℕ
    w = hi - lo

    slot : ℕ → List Link
    slot k = slot_copy old array (base_slot (old_slot classes lo w k)) p (base_slot 0 + 2 * k)

    one_base : (b : ℕ) → flat (λ c. slot (b * w + c)) w ≡ flat (slot_turn array (b * classes + lo) p (b * w) old) w
    one_base b =
        flat-same (λ c. slot (b * w + c)) (slot_turn array (b * classes + lo) p (b * w) old) w
        (λ c l.
        let (d, m) = in_row w b c l in
        ap₂ (λ (x y : ℕ). slot_copy old array (base_slot (x * classes + (lo + y))) p (base_slot 0 + 2 * (b * w + c))) d m
        ∙ ap₂ (λ (q r : ℕ). slot_copy old array q p r) (omega arith) (omega arith))
