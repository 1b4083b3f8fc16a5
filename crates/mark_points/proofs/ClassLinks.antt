-- Which links are a class's: every link of an array stands at a slot, so that a mark's slot and a column decide it. Assumes nothing.
use Prim.Native.Nat.{ℕ, ◌+◌, ◌-◌, ◌*◌, ◌/◌, ◌%◌, ◌≤◌, ◌<◌}
use mathlib.Core.Path.{◌≡◌, refl, sym, ap, ◌∙◌}
use mathlib.Core.Bool.{Bool, true, false, ◌&&◌, ◌||◌}
use mathlib.Core.List.{List, map}
use mathlib.Core.Logic.{⊎_elim}
use native.Mathlib.Nat.{div-add-mod', mul-le-mul_right}
use native.Mathlib.Omega.{arith}
use lib.Arith.{digits_mod}
use lib.Dec.{leb, ltb, eqb}
use lib.ListN.{length}
use borrow.Author.Tests.{le-leb, lt-leb, lt-ltb, le-ltb, leb-true, ltb-true, eqb-true}
use Rattle.folds.specs.Folds.{all}
use Rattle.folds.specs.Lists.{part, among, is_some}
use Rattle.folds.proofs.Agree.{both_ways}
use Rattle.folds.proofs.Among.{among-mapped, among-at, among-picked}
use Rattle.folds.proofs.Each.{each_upto, each_among}
use Rattle.folds.proofs.Picked.{sift-upto, map-picked}
use Rattle.folds.proofs.Tests.{either, and_both, and_intro}
use Rattle.ot_layouts.specs.Coverage.{Entry, cover_readable}
use Rattle.ot_layouts.specs.Numbers.{u16_at}
use Rattle.ot_layouts.specs.MarkBasePos.{
  cover_at,
  base_cover_at,
  mark_array_at,
  base_array_at,
  mark_class,
  mark_slot,
  is_table_slot,
  is_mark_slot,
  class_before,
  marks_readable,
  base_slot,
  is_base_slot,
  column_at,
  bases_readable,
}
use Rattle.store_rules.specs.Store.{Store, Link, link_at, parent_of, position_of, size_of, offset_of, all_at, child_at, linked_bytes}
use Rattle.store_rules.specs.Reach.{rows_of}
use Rattle.store_rules.proofs.Shaped.{of_offset, of_parent, offset_inside}
use Rattle.store_rules.proofs.Sound.{Fits, sound_fits, size_bytes, size_most}
use Rattle.store_rules.proofs.Lookups.{linked_used}
use Rattle.store_rules.proofs.Slots.{one_stands}
use Rattle.store_reader.specs.Rows.{orders}
use Rattle.glyph_rules.specs.Entries.{within}
use Rattle.glyph_class_parts.specs.ClassParts.{start_of}
use Rattle.glyph_class_parts.proofs.ClassParts.{class_part}
use Rattle.mark_rules.specs.Table.{
  classes_of,
  mark_array,
  mark_bytes,
  marks_in,
  base_array,
  base_bytes,
  bases_in,
  parts_readable,
  in_classes,
  all_at_slots,
  of_classes,
}
use Rattle.mark_order.specs.Marks.{mark_places}
use Rattle.mark_points.specs.declared.table_info.TableInfo.{TableInfo}
use Rattle.mark_points.specs.Anchors.{column_slots, also_class}
use Rattle.mark_points.specs.Points.{Described}

-- ---- ranges of classes

-- one class more
range_more : (a i c : ℕ) → a ≤ i → in_classes a (i + 1) c ≡ in_classes a i c || in_classes i (i + 1) c
range_more a i c h =
    ⊎_elim
    (λ (g : c < i). rw (lt-ltb c (i + 1) (omega arith), lt-ltb c i g, lt-leb i c g) (or_false (leb a c && true)))
    (λ (g : i ≤ c). rw (le-leb a c (omega arith), le-ltb c i g, le-leb i c g))
    (either c i)
  where
    or_false : (b : Bool) → b ≡ b || false
    or_false true = refl
    or_false false = refl

range_none : (i c : ℕ) → in_classes i i c ≡ false
range_none i c = ⊎_elim (λ (g : c < i). rw (lt-leb i c g)) (λ (g : i ≤ c). rw (le-leb i c g, le-ltb c i g)) (either c i)

range_one : (i c : ℕ) → in_classes i (i + 1) c ≡ true → c ≡ i
range_one i c h = let (p, q) = and_both (leb i c) (ltb c (i + 1)) h in omega (arith, leb-true i c p, ltb-true c (i + 1) q)

one_range_lem : (i c : ℕ) → c ≡ i → in_classes i (i + 1) c ≡ true
one_range_lem i c e = and_intro (leb i c) (ltb c (i + 1)) (le-leb i c (omega arith)) (lt-ltb c (i + 1) (omega arith))

-- ---- a column of the base array

module _ (bases n i m : ℕ) (inside : m < bases * n) (class : i < n) where
  column_of : (k : ℕ) → column_at n (base_slot k) ≡ k % n
  column_of k = let e : (2 + 2 * k - 2) / 2 ≡ k = omega arith in ap (λ (x : ℕ). x % n) e

  in_column : among (base_slot m) (column_slots bases n i) ≡ in_classes i (i + 1) (column_at n (base_slot m))
  in_column = both_ways (among (base_slot m) (column_slots bases n i)) (in_classes i (i + 1) (column_at n (base_slot m))) there back
    where
      there : among (base_slot m) (column_slots bases n i) ≡ true → in_classes i (i + 1) (column_at n (base_slot m)) ≡ true
      there h =
          one_range_lem i (column_at n (base_slot m))
          (each_among (λ q. column_at n q ≡ i) (column_slots bases n i) (base_slot m)
          (each_upto (λ q. column_at n q ≡ i) (λ j. base_slot (j * n + i)) bases (λ j l. column_of (j * n + i) ∙ digits_mod j class)) h)

      back : in_classes i (i + 1) (column_at n (base_slot m)) ≡ true → among (base_slot m) (column_slots bases n i) ≡ true
      back h =
          let r : m % n ≡ i = sym (column_of m) ∙ range_one i (column_at n (base_slot m)) h in
          let e : m / n * n + i ≡ m = ap (λ (x : ℕ). m / n * n + x) (sym r) ∙ div-add-mod' m n in
          let few : m / n < bases = ⊎_elim (λ g. g) (λ (g : bases ≤ m / n). absurd (omega (arith, mul-le-mul_right n g))) (either (m / n) bases) in
          ap (λ (k : ℕ). among (base_slot k) (column_slots bases n i)) (sym e) ∙ among-at (λ j. base_slot (j * n + i)) bases (m / n) few

-- ---- what the checks have seen

module _ {s : Store} {t : ℕ} {x : TableInfo} {ps cs : List ℕ} (u : Described s t x ps cs) where
  pub described_fits : Fits s
  described_fits = sound_fits s u.reads.sounds

  pub arrays_used : (mark_array s t < s.object_count) × (base_array s t < s.object_count)
  arrays_used = (linked_used s t described_fits u.reads.used mark_array_at, linked_used s t described_fits u.reads.used base_array_at)

  readable : (marks_readable (classes_of s t) (mark_bytes s t) ≡ true) × (bases_readable (classes_of s t) (base_bytes s t) ≡ true)
  unfolding parts_readable
  readable =
      let cover : Bool = is_some (child_at s t cover_at) && cover_readable (linked_bytes s t cover_at) in
      let base-cover : Bool = is_some (child_at s t base_cover_at) && cover_readable (linked_bytes s t base_cover_at) in
      let marks : Bool = is_some (child_at s t mark_array_at) && marks_readable (classes_of s t) (mark_bytes s t) in
      let bases : Bool = is_some (child_at s t base_array_at) && bases_readable (classes_of s t) (base_bytes s t) in
      let (a, b) = and_both (cover && base-cover && marks) bases u.reads.parts in
      let (c, d) = and_both (cover && base-cover) marks a in (
        (and_both (is_some (child_at s t mark_array_at)) (marks_readable (classes_of s t) (mark_bytes s t)) d).1,
        (and_both (is_some (child_at s t base_array_at)) (bases_readable (classes_of s t) (base_bytes s t)) b).1,
      )

  marks_size_lem : size_of s (mark_array s t) ≡ 2 + 4 * marks_in s t
  unfolding marks_readable
  marks_size_lem =
      let b = mark_bytes s t in
      let whole = (and_both (eqb (length b) (2 + 4 * marks_in s t)) (all (λ i. ltb (mark_class b i) (classes_of s t)) (marks_in s t)) readable.0).0 in
      sym (size_bytes s described_fits (mark_array s t) arrays_used.0) ∙ eqb-true (length b) (2 + 4 * marks_in s t) whole

  bases_size : size_of s (base_array s t) ≡ base_slot (bases_in s t * classes_of s t)
  unfolding bases_readable
  bases_size =
      sym (size_bytes s described_fits (base_array s t) arrays_used.1)
      ∙ eqb-true (length (base_bytes s t)) (2 + 2 * (bases_in s t * classes_of s t)) readable.1

  pub marks_most : marks_in s t ≤ 4194304
  marks_most = omega (arith, marks_size_lem, size_most s described_fits (mark_array s t) arrays_used.0)

  pub slots_most : base_slot (x.arrays.bases * x.arrays.classes) ≤ orders
  slots_most = rw (u.bases, u.classes) (omega (arith, bases_size, size_most s described_fits (base_array s t) arrays_used.1))

  at_slots_lem : (all_at s (mark_array s t) is_mark_slot ≡ true) × (all_at s (base_array s t) is_base_slot ≡ true)
  unfolding all_at_slots
  at_slots_lem =
      let (a, b) = and_both (all_at s t is_table_slot && all_at s (mark_array s t) is_mark_slot) (all_at s (base_array s t) is_base_slot) u.slots in
      ((and_both (all_at s t is_table_slot) (all_at s (mark_array s t) is_mark_slot) a).1, b)

  module _ (k : ℕ) (used : k < s.link_count) where
    position_in_lem : (p : ℕ) → offset_of p (link_at s k) ≡ true → position_of s k + 2 ≤ size_of s p
    position_in_lem p e =
        let inside = offset_inside (size_of s (parent_of s k)) (link_at s k) (of_offset p (link_at s k) e) (described_fits.link k used).shape in
        rw (of_parent p (link_at s k) e) at inside

    -- a link of the mark array stands at a mark's slot
    mark_slot_lem : offset_of (mark_array s t) (link_at s k) ≡ true → (m : ℕ) × (m < marks_in s t) × (position_of s k ≡ mark_slot m)
    unfolding is_mark_slot
    mark_slot_lem e =
        let q : ℕ = position_of s k in
        let (a, b) = and_both (leb 4 q) (eqb (q % 4) 0) (one_stands s (mark_array s t) is_mark_slot at_slots_lem.0 k used e) in
        let low : 4 ≤ q = leb-true 4 q a in
        let even : q % 4 ≡ 0 = eqb-true (q % 4) 0 b in
        ((q - 4) / 4, omega (arith, position_in_lem (mark_array s t) e, marks_size_lem), omega arith)

    -- and one of the base array at a base's
    base_slot_lem : offset_of (base_array s t) (link_at s k) ≡ true → (m : ℕ) × (m < bases_in s t * classes_of s t) × (position_of s k ≡ base_slot m)
    unfolding is_base_slot
    base_slot_lem e =
        let q : ℕ = position_of s k in
        let (a, b) = and_both (leb 2 q) (eqb (q % 2) 0) (one_stands s (base_array s t) is_base_slot at_slots_lem.1 k used e) in
        let low : 2 ≤ q = leb-true 2 q a in
        let even : q % 2 ≡ 0 = eqb-true (q % 2) 0 b in
        ((q - 2) / 2, omega (arith, position_in_lem (base_array s t) e, bases_size), omega arith)

  -- ---- of a class

  module _ (i : ℕ) where
    -- the places of its marks
    abbrev its : List ℕ
    its = part ps (start_of (mark_places s t) i) (start_of (mark_places s t) (i + 1))

    -- a mark is at one of them exactly if it is of the class
    in_class : (m : ℕ) → m < marks_in s t → among m its ≡ in_classes i (i + 1) (mark_class (mark_bytes s t) m)
    unfolding within
    in_class m h =
        let entry : ℕ → Entry = λ j. record { glyph = j; class = mark_class (mark_bytes s t) j } in
        let test : Entry → Bool = λ e. leb i e.class && ltb e.class (i + 1) in
        ap (among m)
        (class_part (mark_places s t) u.ordered.up u.ordered.under u.ordered.by_class i
        ∙ ap (map (λ e. e.glyph)) (sift-upto test entry (marks_in s t))
        ∙ map-picked (λ e. e.glyph) (λ j. test (entry j)) entry (marks_in s t))
        ∙ among-picked (λ j. test (entry j)) (marks_in s t) m h

    mark_row : (k : ℕ) → k < s.link_count → offset_of (mark_array s t) (link_at s k) ≡ true
        → among (position_of s k) (map mark_slot its) ≡ in_classes i (i + 1) (class_before (mark_bytes s t) (position_of s k))
    mark_row k h e =
        let (m, few, q) = mark_slot_lem k h e in
        let z : 4 + 4 * m - 2 ≡ 2 + 4 * m = omega arith in
        rw q
        (among-mapped mark_slot m its (λ y f. omega arith)
        ∙ in_class m few
        ∙ ap (λ (y : ℕ). in_classes i (i + 1) (u16_at (mark_bytes s t) y)) (sym z))

    base_row : i < classes_of s t → (k : ℕ) → k < s.link_count → offset_of (base_array s t) (link_at s k) ≡ true
        → among (position_of s k) (column_slots (bases_in s t) (classes_of s t) i) ≡ in_classes i (i + 1) (column_at (classes_of s t) (position_of s k))
    base_row class k h e = let (m, few, q) = base_slot_lem k h e in rw q (in_column (bases_in s t) (classes_of s t) i m few class)

  -- ---- one class more

  where_true : (b y z : Bool) → (b ≡ true → y ≡ z) → b && y ≡ b && z
  where_true true y z h = h refl
  where_true false y z h = refl

  joined : (m b r q y z : Bool) → (m && r || b && q) || b && z || m && y ≡ m && (r || y) || b && (q || z)
  joined false false r q y z = refl
  joined false true r q y z = or_false (q || z)
    where
      or_false : (c : Bool) → c || false ≡ c
      or_false true = refl
      or_false false = refl
  joined true false r q y z = or_false r y
    where
      or_false : (c d : Bool) → (c || false) || false || d ≡ (c || d) || false
      or_false true d = refl
      or_false false true = refl
      or_false false false = refl
  joined true true true q y z = refl
  joined true true false q y z = swapped q z y
    where
      swapped : (c d e : Bool) → c || d || e ≡ e || (c || d)
      swapped true d true = refl
      swapped true d false = refl
      swapped false true true = refl
      swapped false true false = refl
      swapped false false true = refl
      swapped false false false = refl

  module _ (a i : ℕ) where
    -- the rows of the classes from a up to i, with those of class i
    pub class_more : a ≤ i → i < x.arrays.classes → (k : ℕ) → k < s.link_count
        → also_class s (rows_of s (of_classes s t) a i) x i (its i) k ≡ rows_of s (of_classes s t) a (i + 1) k
    unfolding of_classes
    class_more order inside k h =
        let l : Link = link_at s k in
        let c : ℕ = class_before (mark_bytes s t) (position_of s k) in
        let d : ℕ = column_at (classes_of s t) (position_of s k) in
        let marks : Bool = offset_of (mark_array s t) l in
        let bases : Bool = offset_of (base_array s t) l in
        let in-marks : marks && among (position_of s k) (map mark_slot (its i)) ≡ marks && in_classes i (i + 1) c =
        where_true marks _ _ (λ e. mark_row i k h e) in
        let in-bases : bases && among (position_of s k) (column_slots (bases_in s t) (classes_of s t) i) ≡ bases && in_classes i (i + 1) d =
        where_true bases _ _ (λ e. base_row i (omega (arith, u.classes)) k h e) in
        rw (u.marks_at, u.bases_at, u.bases, u.classes, in-marks, in-bases)
        (joined marks bases (in_classes a i c) (in_classes a i d) (in_classes i (i + 1) c) (in_classes i (i + 1) d)
        ∙ rw (sym (range_more a i c order), sym (range_more a i d order)))

  -- no class, and no row
  pub class_none : (i k : ℕ) → rows_of s (of_classes s t) i i k ≡ false
  unfolding of_classes
  class_none i k =
      rw (range_none i (class_before (mark_bytes s t) (position_of s k)), range_none i (column_at (classes_of s t) (position_of s k)))
      (neither (offset_of (mark_array s t) (link_at s k)) (offset_of (base_array s t) (link_at s k)))
    where
      neither : (b c : Bool) → b && false || c && false ≡ false
      neither true true = refl
      neither true false = refl
      neither false true = refl
      neither false false = refl
