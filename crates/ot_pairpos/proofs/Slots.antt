-- Where a link may stand, in the code's tests. Assumes nothing.
use Prim.Native.Nat.{ℕ, ◌+◌, ◌-◌, ◌*◌, ◌/◌, ◌%◌, ◌≤◌, ◌<◌}
use mathlib.Core.Path.{◌≡◌, refl, sym, ap, ap₂, ◌∙◌}
use mathlib.Core.Bool.{Bool, true, false, cond, ◌||◌, and-false, or-false}
use mathlib.Core.List.{List, [], ◌∷◌, map}
use native.Mathlib.Decide.{ℕ_discrete}
use native.Mathlib.Omega.{arith}
use lib.Dec.{eqb, leb}
use borrow.Author.Tests.{eq-eqb, ne_eqb, le-leb, lt-leb, le-ltb}
use Rattle.folds.specs.Lists.{among}
use Rattle.folds.proofs.Among.{among-append, among_one, among_none, among-mapped}
use Rattle.ot_layouts.specs.Numbers.{u16_at}
use Rattle.ot_layouts.specs.Values.{field_count, position, devices}
use Rattle.ot_layouts.specs.PairPos.{Shape, format_of, record_size, device_slots, shape1, shape2, shape_of, is_slot}
use Rattle.ot_values.proofs.Devices.{devices_between}
use Rattle.ot_pairpos.specs.Layout.{layout_of, slots_of}
use Rattle.ot_pairpos.specs.declared.Layout.{Layout}

-- ---- format 1

module _ (b : List ℕ) (q : ℕ) where
  pub slot1_head : q ≡ 2 → true ≡ is_slot (shape1 b) q
  unfolding is_slot shape1
  slot1_head e = rw (among_one q 2, eq-eqb q 2 e)

  pub slot1_low : (q ≡ 2 → ⊥) → q < 10 → false ≡ is_slot (shape1 b) q
  unfolding is_slot shape1
  slot1_low n h = rw (among_one q 2, ne_eqb q 2 n, lt-leb 10 q h)

  pub slot1_item : (q ≡ 2 → ⊥) → 10 ≤ q → eqb ((q - 10) % 2) 0 ≡ is_slot (shape1 b) q
  unfolding is_slot shape1
  slot1_item n h = rw (among_one q 2, ne_eqb q 2 n, le-leb 10 q h) (sym (among_one ((q - 10) % 2) 0))

-- ---- the devices of two value records

-- past the last field there is no device
no_device : (vf k : ℕ) → field_count vf ≤ k → among k (devices vf) ≡ false
no_device vf k h = devices_between vf k ∙ rw (le-ltb k (field_count vf) h) (and-false (leb (position vf 4) k))

module _ (v w o : ℕ) where
  pub odd_slot : o % 2 ≡ 1 → false ≡ among o (slots_of v w)
  odd_slot h =
      sym (among-append o (map (λ k. 2 * k) (devices v)) (map (λ k. 2 * (field_count v + k)) (devices w))
      ∙ ap₂ (λ (x y : Bool). x || y) (among_none (λ k. 2 * k) o (devices v) (λ k e. omega arith)) (among_none (λ k. 2 * (field_count v + k)) o (devices w) (λ k e. omega arith)))

  both_parts : (x y : Bool) → among o (map (λ k. 2 * k) (devices v)) ≡ x → among o (map (λ k. 2 * (field_count v + k)) (devices w)) ≡ y → among o (slots_of v w) ≡ x || y
  both_parts x y e f =
      among-append o (map (λ k. 2 * k) (devices v)) (map (λ k. 2 * (field_count v + k)) (devices w)) ∙ ap₂ (λ (x y : Bool). x || y) e f

  pub first_slot : (o % 2 ≡ 1 → ⊥) → o / 2 < field_count v → among (o / 2) (devices v) ≡ among o (slots_of v w)
  first_slot n h =
      let e : o ≡ 2 * (o / 2) = omega arith in
      sym (both_parts (among (o / 2) (devices v)) false
      (ap (λ (x : ℕ). among x (map (λ k. 2 * k) (devices v))) e ∙ among-mapped (λ k. 2 * k) (o / 2) (devices v) (λ k q. omega arith))
      (among_none (λ k. 2 * (field_count v + k)) o (devices w) (λ k q. omega arith))
      ∙ or-false (among (o / 2) (devices v)))

  pub second_slot : (o % 2 ≡ 1 → ⊥) → field_count v ≤ o / 2 → among (o / 2 - field_count v) (devices w) ≡ among o (slots_of v w)
  second_slot n h =
      let e : o ≡ 2 * (o / 2) = omega arith in
      let g : o ≡ 2 * (field_count v + (o / 2 - field_count v)) = omega arith in
      sym (both_parts false (among (o / 2 - field_count v) (devices w))
      (ap (λ (x : ℕ). among x (map (λ k. 2 * k) (devices v))) e ∙ among-mapped (λ k. 2 * k) (o / 2) (devices v) (λ k q. omega arith) ∙ no_device v (o / 2) h)
      (ap (λ (x : ℕ). among x (map (λ k. 2 * (field_count v + k)) (devices w))) g
      ∙ among-mapped (λ k. 2 * (field_count v + k)) (o / 2 - field_count v) (devices w) (λ k q. omega arith)))

  no_slots : field_count v ≡ 0 → field_count w ≡ 0 → among o (slots_of v w) ≡ false
  no_slots e f = go (ℕ_discrete (o % 2) 1)
    where
      go : Dec (o % 2 ≡ 1) → among o (slots_of v w) ≡ false
      go (yes h) = sym (odd_slot h)
      go (no h) = sym (second_slot h (omega arith)) ∙ no_device w (o / 2 - field_count v) (omega arith)

-- ---- format 2

module _ (b : List ℕ) (q : ℕ) where
  pub slot2_head : q < 16 → among q (2 ∷ 8 ∷ 10 ∷ []) ≡ is_slot (shape2 b) q
  unfolding is_slot shape2
  slot2_head h = rw (lt-leb 16 q h) (sym (or-false (among q (2 ∷ 8 ∷ 10 ∷ []))))

  not_head : 16 ≤ q → among q (2 ∷ 8 ∷ 10 ∷ []) ≡ false
  unfolding among
  not_head h = rw (ne_eqb q 2 (λ e. omega arith), ne_eqb q 8 (λ e. omega arith), ne_eqb q 10 (λ e. omega arith))

  pub slot2_record : 16 ≤ q → among ((q - 16) % record_size b) (device_slots b) ≡ is_slot (shape2 b) q
  unfolding is_slot shape2
  slot2_record h = rw (not_head h, le-leb 16 q h)

  -- where the formats have no fields, they have no devices
  pub slot2_empty : 16 ≤ q → 0 ≡ record_size b → false ≡ is_slot (shape2 b) q
  unfolding record_size device_slots
  slot2_empty h e = sym (no_slots (u16_at b 4) (u16_at b 6) ((q - 16) % record_size b) (omega arith) (omega arith)) ∙ slot2_record h

-- ---- by format

shape_of_one : (b : List ℕ) → (shape_of b).format ≡ 1 → shape_of b ≡ shape1 b
unfolding shape_of shape2
shape_of_one b = go (eqb (format_of b) 1)
  where
    go : (x : Bool) → (cond x (shape1 b) (shape2 b)).format ≡ 1 → cond x (shape1 b) (shape2 b) ≡ shape1 b
    go true e = refl
    go false e = let z : ◌≡◌ {A = ℕ} 2 1 = e in absurd (omega arith)

shape_of_two : (b : List ℕ) → ((shape_of b).format ≡ 1 → ⊥) → shape_of b ≡ shape2 b
unfolding shape_of shape1
shape_of_two b = go (eqb (format_of b) 1)
  where
    go : (x : Bool) → ((cond x (shape1 b) (shape2 b)).format ≡ 1 → ⊥) → cond x (shape1 b) (shape2 b) ≡ shape2 b
    go true n = absurd (n refl)
    go false n = refl

module _ (b : List ℕ) (q : ℕ) (l : Layout) (e : l ≡ layout_of b) {r : Bool} where
  pub slot_of_one : l.format ≡ 1 → r ≡ is_slot (shape1 b) q → r ≡ is_slot (shape_of b) q
  unfolding layout_of
  slot_of_one f h = h ∙ ap (λ (s : Shape). is_slot s q) (sym (shape_of_one b (sym (ap (λ (x : Layout). x.format) e) ∙ f)))

  pub slot_of_two : (l.format ≡ 1 → ⊥) → (l.unit ≡ record_size b → l.value1 ≡ u16_at b 4 → l.value2 ≡ u16_at b 6 → r ≡ is_slot (shape2 b) q) → r ≡ is_slot (shape_of b) q
  unfolding layout_of shape2
  slot_of_two n h =
      let two : shape_of b ≡ shape2 b = shape_of_two b (λ f. n (ap (λ (x : Layout). x.format) e ∙ f)) in
      h (ap (λ (x : Layout). x.unit) e ∙ ap (λ (s : Shape). s.unit) two) (ap (λ (x : Layout). x.value1) e) (ap (λ (x : Layout). x.value2) e)
      ∙ ap (λ (s : Shape). is_slot s q) (sym two)
