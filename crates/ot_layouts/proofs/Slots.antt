-- A field lies in its value record, and a link slot in its unit. Assumes nothing.
use Prim.Native.Nat.{ℕ, ◌+◌, ◌-◌, ◌*◌, ◌/◌, ◌%◌, ◌<◌, ◌≤◌}
use mathlib.Core.Path.{◌≡◌, refl, sym, ap, ◌∙◌}
use mathlib.Core.Bool.{Bool, true, false, cond, ◌&&◌}
use mathlib.Core.List.{List, [], ◌∷◌, map}
use mathlib.Core.Logic.{⊎_elim}
use native.Mathlib.Omega.{arith}
use native.Mathlib.Nat.{div-add-mod, lt_of_mul-lt-mul_left, mul-le-mul_left, mul-add, mul_assoc, mul_comm, mul-add-mod_self_right}
use lib.Dec.{eqb, leb}
use borrow.Author.Tests.{eqb-false, eqb-true, ne_eqb, leb-true, le-leb}
use Rattle.folds.specs.Lists.{among}
use Rattle.folds.proofs.Tests.{and_both, and_intro, true_false}
use Rattle.folds.proofs.Joined.{or_either, or-second}
use Rattle.folds.proofs.Each.{Each, each_flat, each_append, each_map, each_among}
use Rattle.ot_layouts.specs.Values.{bit, position, field_count, devices, field_at}
use Rattle.ot_layouts.specs.PairPos.{record_size, device_slots, value1, value2, heads, is_slot, shape_of, item_at, shape1, shape2, columns}
use Rattle.ot_layouts.proofs.Values.{position_more, position_le, position_all}
use Rattle.ot_layouts.proofs.Shapes.{by_format, heads_within}

-- ---- fields

pub field_fits : (vf j : ℕ) → j < 8 → eqb (bit vf j) 0 ≡ false → position vf j + 1 ≤ field_count vf
field_fits vf j h e =
    let n : bit vf j ≡ 0 → ⊥ = eqb-false (bit vf j) 0 e in
    omega (arith, position_more vf j, position_le vf (j + 1) 8 (omega arith), position_all vf)

devices_fit : (vf : ℕ) → Each (λ k. k + 1 ≤ field_count vf) (devices vf)
unfolding devices
devices_fit vf = each_flat (λ k. k + 1 ≤ field_count vf) (λ j. cond (eqb (bit vf j) 1 && (field_at j).device) (position vf j ∷ []) []) 8 (λ j l. go j l (eqb (bit vf j) 1 && (field_at j).device) refl)
  where
    go : (j : ℕ) → j < 8 → (b : Bool) → (eqb (bit vf j) 1 && (field_at j).device) ≡ b → Each (λ k. k + 1 ≤ field_count vf) (cond b (position vf j ∷ []) [])
    go j l true e =
        let (p, q) = and_both (eqb (bit vf j) 1) (field_at j).device e in
        let o : bit vf j ≡ 1 = eqb-true (bit vf j) 1 p in
        (field_fits vf j l (ne_eqb (bit vf j) 0 (λ z. omega arith)), tt)
    go j l false e = tt

-- ---- slots

device_slots_fit : (b : List ℕ) → Each (λ r. r + 2 ≤ record_size b) (device_slots b)
unfolding device_slots record_size
device_slots_fit b =
    let u = record_size b in
    each_append (λ r. r + 2 ≤ u) (map (λ k. 2 * k) (devices (value1 b))) (map (λ k. 2 * (field_count (value1 b) + k)) (devices (value2 b)))
    (each_map (λ k. k + 1 ≤ field_count (value1 b)) (λ r. r + 2 ≤ u) (λ k. 2 * k) (λ x h. omega arith) (devices (value1 b)) (devices_fit (value1 b)))
    (each_map (λ k. k + 1 ≤ field_count (value2 b)) (λ r. r + 2 ≤ u) (λ k. 2 * (field_count (value1 b) + k)) (λ x h. omega arith) (devices (value2 b)) (devices_fit (value2 b)))

-- a slot in a unit, below a place that is a whole number of units on
unit_fits : (u m x : ℕ) → x % u + 2 ≤ u → x < u * m → x + 2 ≤ u * m
unit_fits u m x a h =
    let d : u * (x / u) + x % u ≡ x = div-add-mod x u in
    let l : u * (x / u) < u * m = omega arith in
    let k : x / u < m = lt_of_mul-lt-mul_left u l in
    omega (arith, mul-le-mul_left {m = x / u + 1} {n = m} u (omega arith), mul-add u (x / u) 1)

-- a slot that starts before item n ends there or before
pub slot_fits : (b : List ℕ) (q n : ℕ) → is_slot (shape_of b) q ≡ true → q < item_at (shape_of b) n → q + 2 ≤ item_at (shape_of b) n
unfolding is_slot shape1 shape2 among
slot_fits b q n =
    by_format (λ sh. is_slot sh q ≡ true → q < item_at sh n → q + 2 ≤ item_at sh n) b
    (λ e h l. ⊎_elim
    (λ a. let z : q ≡ 2 = each_among (λ x. x ≡ 2) (2 ∷ []) q (refl, tt) a in omega arith)
    (λ a.
    let (c, d) = and_both (leb 10 q) (among ((q - 10) % 2) (0 ∷ [])) a in
    let r = leb-true 10 q c in
    let z : (q - 10) % 2 ≡ 0 = each_among (λ x. x ≡ 0) (0 ∷ []) ((q - 10) % 2) (refl, tt) d in
    omega arith)
    (or_either (among q (2 ∷ [])) (leb 10 q && among ((q - 10) % 2) (0 ∷ [])) h))
    (λ e h l. ⊎_elim
    (λ a. let z : q ≤ 10 = each_among (λ x. x ≤ 10) (2 ∷ 8 ∷ 10 ∷ []) q (omega arith, (omega arith, (omega arith, tt))) a in omega arith)
    (λ a.
    let (c, d) = and_both (leb 16 q) (among ((q - 16) % record_size b) (device_slots b)) a in
    let r = leb-true 16 q c in
    let z : (q - 16) % record_size b + 2 ≤ record_size b = each_among (λ x. x + 2 ≤ record_size b) (device_slots b) ((q - 16) % record_size b) (device_slots_fit b) d in
    let m : record_size b * columns b * n ≡ record_size b * (columns b * n) = mul_assoc (record_size b) (columns b) n in
    omega (arith, unit_fits (record_size b) (columns b * n) (q - 16) z (omega arith)))
    (or_either (among q (2 ∷ 8 ∷ 10 ∷ [])) (leb 16 q && among ((q - 16) % record_size b) (device_slots b)) h))

-- ---- some items further on

-- an item is a whole number of units
item_units : (b : List ℕ) → (m : ℕ) × ((shape_of b).item ≡ (shape_of b).unit * m)
unfolding shape1 shape2
item_units b = by_format (λ sh. (m : ℕ) × (sh.item ≡ sh.unit * m)) b (λ e. (1, refl)) (λ e. (columns b, refl))

-- a slot of an item stays one where the items before item n are left out
pub slot_moved : (b : List ℕ) (q n : ℕ) → is_slot (shape_of b) q ≡ true → item_at (shape_of b) n ≤ q → is_slot (shape_of b) (q - (shape_of b).item * n) ≡ true
unfolding is_slot
slot_moved b q n h l =
    let sh = shape_of b in
    let r = q - sh.item * n in
    let (m, e) = item_units b in
    let whole : sh.item * n ≡ m * n * sh.unit = ap (λ (i : ℕ). i * n) e ∙ mul_assoc sh.unit m n ∙ mul_comm sh.unit (m * n) in
    let apart : q - sh.header ≡ m * n * sh.unit + (r - sh.header) = omega arith in
    let same : (q - sh.header) % sh.unit ≡ (r - sh.header) % sh.unit = ap (λ (x : ℕ). x % sh.unit) apart ∙ mul-add-mod_self_right (m * n) sh.unit (r - sh.header) in
    ⊎_elim
    (λ a. true_false (sym a ∙ heads_within b q (omega arith)))
    (λ a.
    or-second (among r (heads sh)) (leb sh.header r && among ((r - sh.header) % sh.unit) sh.slots)
    (and_intro (leb sh.header r) (among ((r - sh.header) % sh.unit) sh.slots) (le-leb sh.header r (omega arith))
    (ap (λ (x : ℕ). among x sh.slots) (sym same) ∙ (and_both (leb sh.header q) (among ((q - sh.header) % sh.unit) sh.slots) a).1)))
    (or_either (among q (heads sh)) (leb sh.header q && among ((q - sh.header) % sh.unit) sh.slots) h)
