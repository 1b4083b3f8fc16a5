-- Where a pair's values stand, step by step. Assumes nothing.
use Rattle.std.specs.Prelude.{Option, Some, None}
use Prim.Native.Nat.{ℕ, ◌+◌, ◌*◌, ◌≤◌, ◌<◌}
use mathlib.Core.Path.{◌≡◌, sym, ap, ◌∙◌}
use mathlib.Core.Bool.{true}
use mathlib.Core.List.{List}
use native.Mathlib.Omega.{arith}
use lib.ListN.{length}
use lib.Dec.{eqb}
use borrow.Author.Tests.{lt-ltb, le-ltb}
use Rattle.folds.specs.Lists.{and_then}
use Rattle.folds.proofs.Tests.{by_test}
use Rattle.ot_layouts.specs.Coverage.{coverage_of, cover_place}
use Rattle.ot_layouts.specs.ClassDef.{class_def_of, class_of}
use Rattle.ot_layouts.specs.PairPos.{value1, value2, record_size, first_record, values_at, set_sorted}
use Rattle.ot_layouts.proofs.Values.{field_count_le}
use Rattle.store_reader.specs.Rows.{Inside}
use Rattle.store_reader.proofs.Bytes.{inside}
use Rattle.ot_pairpos.specs.declared.Layout.{Layout}
use Rattle.store_rules.specs.Store.{Store, lent, sound, bytes_of, child_at}
use Rattle.pair_rules.specs.Table.{shape, sets_sorted}
use Rattle.pair_rules.proofs.SortedSets.{set_sorted_lem}
use Rattle.pair_rules.specs.Pairs as Pairs
use Rattle.pair_rules.specs.Pairs.{spot_of}
use Rattle.store_rules.proofs.Sound.{sound_fits}
use Rattle.store_rules.proofs.Lookups.{child_used_lem}
use Rattle.glyph_parts.specs.Parts.{ReadPart}
use Rattle.glyph_parts.proofs.Parts.{part_read}
use Rattle.pair_checks.specs.declared.PairTable.{PairTable}
use Rattle.pair_checks.proofs.Refusals.{format_one, format_two}
use Rattle.pair_checks.specs.Opens.{Opens}
use Rattle.pair_spots.specs.Spots.{spot_found, field_bytes, SlotSorted, in_set, by_set, by_classes}
use Rattle.pair_spots.specs.declared.Spot.{Spot}
use Rattle.pair_sets.proofs.Halved.{values_within}
use Rattle.pair_spots.proofs.Spots.{same_count, same_size, slot_place, spot_by_set_lem, spot_by_classes_lem, same_unit}

-- ---- in a pair set

module _ (s : Store) (size b c : ℕ) {v : List ℕ} {x : Option ℕ} (g : v ≡ bytes_of s c) (e : x ≡ first_record v size b) where
  searched : {r : Option ℕ} → x ≡ r → first_record (bytes_of s c) size b ≡ r
  searched y = ap (λ (w : List ℕ). first_record w size b) (sym g) ∙ sym e ∙ y

  pub record_in : {r : ℕ} → x ≡ Some r → spot_found (Some (record { object = c; at = values_at size r })) ≡ in_set s size b c
  unfolding in_set and_then
  record_in y = rw (searched y)

  pub no_record_in : x ≡ None → spot_found None ≡ in_set s size b c
  unfolding in_set and_then
  no_record_in y = rw (searched y)

-- a record that is found stands within the set, so that its place is counted without wrapping
pub record_place : (v : List ℕ) {x : Option ℕ} (size b r : ℕ) → x ≡ first_record v size b → x ≡ Some r → values_at size r + size ≤ length v
record_place v size b r e y = values_within v size b r (sym e ∙ y)

-- ---- format 1

module _ (s : Store) (t : ℕ) (l : Layout) (b k : ℕ) where
  pub no_set : l.count ≤ k → spot_found None ≡ by_set s t l b k
  unfolding by_set and_then
  no_set h = rw (le-ltb k l.count h)

  module _ (h : k < l.count) {x : Option ℕ} (e : x ≡ child_at s t (10 + 2 * k)) where
    pub no_link_lem : x ≡ None → spot_found None ≡ by_set s t l b k
    unfolding by_set and_then
    no_link_lem y = rw (lt-ltb k l.count h, sym e ∙ y)

    module _ {c : ℕ} (y : x ≡ Some c) where
      linked : child_at s t (10 + 2 * k) ≡ Some c
      linked = sym e ∙ y

      pub set-inside : sound s ≡ true → Inside (length s.bytes) s.objects c
      set-inside a = inside s (sound_fits s a) c (child_used_lem s t (sound_fits s a) (10 + 2 * k) c linked)

      -- whatever the links: a set's bytes are those of its object
      pub set_is_sorted : SlotSorted s t l k → {size : ℕ} → size ≡ field_bytes l
          → (links counts : List ℕ) → set_sorted (bytes_of (lent s.bytes s.objects links counts) c) size ≡ true
      unfolding bytes_of
      set_is_sorted sorted z links counts = rw z (sorted c h linked)

      pub in_linked_set : {size : ℕ} {o : Option Pairs.Spot} → size ≡ field_bytes l → o ≡ in_set s size b c → o ≡ by_set s t l b k
      unfolding by_set and_then
      in_linked_set z q = q ∙ ap (λ (n : ℕ). in_set s n b c) z ∙ sym (rw (lt-ltb k l.count h, linked))

-- ---- format 2

module _ (s : Store) (t : ℕ) (p : PairTable) (a b : ℕ) {x : ℕ} (e : x ≡ class_of (bytes_of s p.class1.object) a) where
  pub no_row : p.layout.count ≤ x → spot_found None ≡ by_classes s t p a b
  unfolding by_classes
  no_row h = rw (← e, le-ltb x p.layout.count h)

  module _ (h : x < p.layout.count) {y : ℕ} (f : y ≡ class_of (bytes_of s p.class2.object) b) where
    pub no_column : p.layout.columns ≤ y → spot_found None ≡ by_classes s t p a b
    unfolding by_classes
    no_column k = rw (← e, ← f, lt-ltb x p.layout.count h, le-ltb y p.layout.columns k)

    pub in_column : {r : Spot} → y < p.layout.columns
        → r ≡ record { object = t; at = 16 + p.layout.unit * (x * p.layout.columns + y) } → spot_found (Some r) ≡ by_classes s t p a b
    unfolding by_classes
    in_column k q = ap (λ (v : Spot). spot_found (Some v)) q ∙ rw (← e, ← f, lt-ltb x p.layout.count h, lt-ltb y p.layout.columns k)

-- ---- in either format

module _ {s : Store} {t : ℕ} {p : PairTable} (o : Opens s t p) where
  pub coverage_part : ReadPart coverage_of s.bytes s.objects p.coverage
  coverage_part = part_read o.reads.sounds o.coverage

  module _ (n : p.layout.format ≡ 1 → ⊥) where
    pub class1_part : ReadPart class_def_of s.bytes s.objects p.class1
    class1_part = part_read o.reads.sounds (o.class1 (format_two o n))

    pub class2_part : ReadPart class_def_of s.bytes s.objects p.class2
    class2_part = part_read o.reads.sounds (o.class2 (format_two o n))

    pub unit_small : p.layout.unit ≤ 32
    unfolding record_size
    unit_small = omega (arith, same_unit o (format_two o n), field_count_le (value1 (bytes_of s t)), field_count_le (value2 (bytes_of s t)))

  module _ (a b : ℕ) {x : Option ℕ} (e : x ≡ cover_place (bytes_of s p.coverage.object) a) where
    pub not_covered : x ≡ None → spot_found None ≡ spot_of s t a b
    unfolding and_then
    not_covered y =
        let z : cover_place (bytes_of s p.coverage.object) a ≡ None = sym e ∙ y in
        sym (by_test (eqb (shape s t).format 1) (λ f. spot_by_set_lem o f a b ∙ rw z) (λ f. spot_by_classes_lem o f a b ∙ rw z))

    module _ {k : ℕ} (y : x ≡ Some k) where
      covered : cover_place (bytes_of s p.coverage.object) a ≡ Some k
      covered = sym e ∙ y

      pub slot_sorted_lem : p.layout.format ≡ 1 → sets_sorted s t ≡ true → SlotSorted s t p.layout k
      slot_sorted_lem f sorted c l child =
          let one = format_one o f in
          rw (same_size o) (set_sorted_lem s t sorted one k c (omega (arith, same_count o)) (ap (child_at s t) (slot_place o one k) ∙ child))

      pub by_its_set : {r : Option Pairs.Spot} → p.layout.format ≡ 1 → r ≡ by_set s t p.layout b k → r ≡ spot_of s t a b
      unfolding and_then
      by_its_set f q = q ∙ sym (spot_by_set_lem o (format_one o f) a b ∙ rw covered)

      pub by_its_classes : {r : Option Pairs.Spot} → (p.layout.format ≡ 1 → ⊥) → r ≡ by_classes s t p a b → r ≡ spot_of s t a b
      unfolding and_then
      by_its_classes f q = q ∙ sym (spot_by_classes_lem o (format_two o f) a b ∙ rw covered)
