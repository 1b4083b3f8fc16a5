-- The numbers of a value record: a field's bytes stand within the object, and what each kind of field answers. Assumes nothing.
use Rattle.std.specs.Prelude.{Option, Some, None}
use Prim.Native.Nat.{ℕ, suc, ◌+◌, ◌-◌, ◌*◌, ◌≤◌, ◌<◌}
use mathlib.Core.Path.{◌≡◌, sym, ap, ap₂, ◌∙◌}
use mathlib.Core.Bool.{Bool, true, false, not}
use mathlib.Core.List.{List}
use native.Mathlib.Omega.{arith}
use lib.ListN.{length}
use lib.IntN.{ℤ, pos, negsuc, ◌-ℤ◌}
use lib.Dec.{eqb}
use mir.Syntax.{w32}
use mir.Val.{SFits, to_z, of_z}
use mir.ValLaws.{to_z_pos, to_z-of_z}
use borrow.Author.Tests.{eqb-true, eqb-false, eq-eqb, ne_eqb, lt-ltb, le-ltb, not-true, not-false}
use Rattle.ot_layouts.specs.Numbers.{u16_at, signed16}
use Rattle.ot_layouts.specs.Values.{bit, field_at, position}
use Rattle.ot_layouts.specs.declared.Field.{Field}
use Rattle.ot_layouts.proofs.Values.{bit_below, position_more, position_le, position_all}
use Rattle.store_reader.specs.Rows.{Inside, InOrder}
use Rattle.store_reader.proofs.Bytes.{inside}
use Rattle.store_reader.proofs.Rows.{in_order_lem}
use Rattle.store_rules.specs.Store.{Store, bytes_of, child_at, child_of}
use Rattle.pair_rules.specs.Pairs.{device_number, number_of}
use Rattle.store_rules.proofs.Sound.{Fits, sound_fits, size_bytes}
use Rattle.store_rules.proofs.Lookups.{child_row}
use Rattle.pair_values.specs.Values.{ValueRecord}

-- ---- signed numbers

module _ (v : ℕ) where
  pub small_signed : v < 32768 → to_z w32 v ≡ signed16 v
  unfolding signed16
  small_signed h = to_z_pos w32 v (omega arith) ∙ rw (lt-ltb v 32768 h)

  difference : 32768 ≤ v → v < 65536 → to_z w32 v -ℤ pos 65536 ≡ negsuc (65535 - v)
  difference l h =
      let e : 65536 - suc v ≡ 65535 - v = omega arith in
      ap (λ (z : ℤ). z -ℤ pos 65536) (to_z_pos w32 v (omega arith)) ∙ rw (lt-ltb v 65536 h) (ap negsuc e)

  pub difference_fits : 32768 ≤ v → v < 65536 → SFits w32 (to_z w32 v -ℤ pos 65536)
  difference_fits l h = rw (difference l h) (record { sfits = omega arith })

  pub large_signed : 32768 ≤ v → v < 65536 → to_z w32 (of_z w32 (to_z w32 v -ℤ pos 65536)) ≡ signed16 v
  unfolding signed16
  large_signed l h = to_z-of_z w32 (to_z w32 v -ℤ pos 65536) (difference_fits l h) ∙ difference l h ∙ rw (le-ltb v 32768 l)

-- ---- devices

-- the children of the links in use have numbers of sixteen bits
abbrev pub SmallChildren : Store → Type 0
SmallChildren s = (k : ℕ) → k < s.link_count → child_of s k < 65536

module _ (s : Store) (p q : ℕ) {x : Option ℕ} (e : x ≡ child_at s p q) where
  pub child_small : SmallChildren s → {c : ℕ} → x ≡ Some c → c < 65536
  child_small small {c} y =
      let (k, l, a, b, z) = child_row s p q c (sym e ∙ y) in
      rw z at (small k l)

  pub device_linked : {c : ℕ} → x ≡ Some c → c < 65536 → to_z w32 (c + 1) ≡ device_number (child_at s p q)
  device_linked {c} y h = to_z_pos w32 (c + 1) (omega arith) ∙ ap device_number (sym y ∙ e)

  pub device_none : x ≡ None → pos 0 ≡ device_number (child_at s p q)
  device_none y = ap device_number (sym y ∙ e)

-- ---- fields

module _ {s : Store} {o q vf : ℕ} (v : ValueRecord s o q vf) where
  fits : Fits s
  fits = sound_fits s v.sounds

  pub object_inside : Inside (length s.bytes) s.objects o
  object_inside = inside s fits o v.used

  pub links_in_order : InOrder s.links s.link_count
  links_in_order = in_order_lem s fits

  pub children_small : SmallChildren s
  children_small k l = omega (arith, (fits.link k l).child_used, fits.objects_most)

  -- an object's bytes are counted in 32 bits
  pub object_small : length (bytes_of s o) ≤ 16777216
  object_small = omega (arith, size_bytes s fits o v.used, (fits.object o v.used).inside, fits.bytes_most)

  module _ (j : ℕ) (h : j < 8) {b : Bool} (e : b ≡ eqb (bit vf j) 1) where
    pub absent : not b ≡ true → pos 0 ≡ number_of s o q vf j
    unfolding number_of
    absent n =
        let z : bit vf j ≡ 0 = omega (arith, bit_below vf j, eqb-false (bit vf j) 1 (sym e ∙ not-true b n)) in
        rw (eq-eqb (bit vf j) 0 z)

    module _ (has : not b ≡ false) where
      present : bit vf j ≡ 1
      present = eqb-true (bit vf j) 1 (sym e ∙ not-false b has)

      -- over every format and field: a field ends where its record does, or before
      pub field_within : q + 2 * position vf j + 2 ≤ length (bytes_of s o)
      field_within =
          omega (arith, present, position_more vf j, position_le vf (j + 1) 8 (omega arith), position_all vf, v.within)

      there : eqb (bit vf j) 0 ≡ false
      there = ne_eqb (bit vf j) 0 (λ z. omega (arith, present))

      module _ {n : ℕ} (at : n ≡ position vf j) {f : Field} (is : f ≡ field_at j) where
        kind : {b : Bool} → f.device ≡ b → (field_at j).device ≡ b
        kind d = sym (ap (λ (x : Field). x.device) is) ∙ d

        pub device : {x : ℤ} → f.device ≡ true → x ≡ device_number (child_at s o (q + 2 * n)) → x ≡ number_of s o q vf j
        unfolding number_of
        device d i = i ∙ ap (λ (k : ℕ). device_number (child_at s o (q + 2 * k))) at ∙ sym (rw (there, kind d))

        pub plain : {x : ℤ} {y : ℕ} {part : List ℕ} → f.device ≡ false → part ≡ bytes_of s o → y ≡ u16_at part (q + 2 * n) → x ≡ signed16 y → x ≡ number_of s o q vf j
        unfolding number_of
        plain d g u i = i ∙ ap signed16 (u ∙ ap₂ (λ (b : List ℕ) (k : ℕ). u16_at b (q + 2 * k)) g at) ∙ sym (rw (there, kind d))
