-- A table of a range of the old table's classes, as it stands in another store, and what it reads. Assumes nothing.
use Rattle.std.specs.Prelude.{Option, Some, None}
use Prim.Native.Nat.{ℕ, ◌+◌, ◌-◌, ◌*◌, ◌/◌, ◌%◌, ◌<◌, ◌≤◌}
use mathlib.Core.Path.{◌≡◌, refl, sym, ap, ap₂, subst, ◌∙◌}
use mathlib.Core.Bool.{Bool, true, false}
use mathlib.Core.List.{List, map}
use native.Mathlib.Omega.{arith}
use native.Mathlib.Nat.{mul-le-mul_right, mul-add-div_right, mul-add-mod_self_right, div-eq_of_lt, mod-eq_of_lt, add-mul}
use lib.ListN.{length}
use lib.Dec.{ltb}
use borrow.Author.Tests.{ltb-true}
use Rattle.folds.specs.Lists.{given, and_then}
use Rattle.folds.proofs.InRange.{between_is}
use Rattle.ot_layouts.specs.Coverage.{cover_glyphs, cover_place}
use Rattle.ot_layouts.specs.MarkBasePos.{format_of, table_size, cover_at, base_cover_at, mark_array_at, base_array_at, base_count, mark_slot, base_slot}
use Rattle.ot_layouts.proofs.CoverageRoundTrip.{cover_back}
use Rattle.store_rules.specs.Store.{Store, bytes_of, child_at, linked_bytes}
use Rattle.store_rules.proofs.Lookups.{linked_some, linked_is}
use Rattle.mark_rules.specs.Table.{
  Mark,
  classes_of,
  bases_in,
  glyphs_of,
  mark_bytes,
  mark_anchor,
  base_array,
  base_bytes,
  marks_of,
  marks_within,
  in_classes,
  base_anchor,
}
use Rattle.mark_rules.specs.Written.{new_coverage, new_mark_array, new_base_array, mark_child, base_child}
use Rattle.mark_rules.specs.Attachments.{base_place, attach_of, anchors}
use Rattle.mark_rules.specs.Reads.{Reads}
use Rattle.mark_rules.proofs.Marks.{Rises, marks_rise, within_rises, reduce, reduced}
use Rattle.mark_rules.proofs.MarkOf.{mark_of, only, mark_within, mark_reduced, attach_mark, attach_by_mark}
use Rattle.mark_rules.proofs.NewArrays.{marks_back, base_count_lem}

-- object u of s' is the table of the classes lo up to hi of table t of s
pub record View (s : Store) (t : ℕ) (s' : Store) (u lo hi : ℕ) : Type 0 where
  -- a range of classes
  pub low : lo ≤ hi
  pub high : hi ≤ classes_of s t
  -- its own bytes
  pub known : format_of (bytes_of s' u) ≡ 1
  pub exactly : length (bytes_of s' u) ≡ table_size
  pub classes : classes_of s' u ≡ hi - lo
  -- a new coverage and new arrays, with the old children
  pub cover : (c : ℕ) × (s.object_count ≤ c) × (child_at s' u cover_at ≡ Some c) × (bytes_of s' c ≡ new_coverage (marks_within lo hi (marks_of s t)))
  pub marks : (c : ℕ) × (s.object_count ≤ c) × (child_at s' u mark_array_at ≡ Some c) × (bytes_of s' c ≡ new_mark_array lo (marks_within lo hi (marks_of s t)))
      × ((k : ℕ) → k < length (marks_within lo hi (marks_of s t)) → child_at s' c (mark_slot k) ≡ mark_child (marks_within lo hi (marks_of s t)) k)
  pub bases : (c : ℕ) × (s.object_count ≤ c) × (child_at s' u base_array_at ≡ Some c) × (bytes_of s' c ≡ new_base_array (bases_in s t) (hi - lo))
      × ((k : ℕ) → k < bases_in s t * (hi - lo) → child_at s' c (base_slot k) ≡ base_child s t lo (hi - lo) k)
  -- the old base coverage
  pub base_cover : (c : ℕ) × (child_at s' u base_cover_at ≡ Some c) × (child_at s t base_cover_at ≡ Some c) × (bytes_of s' c ≡ bytes_of s c)

module _ {s : Store} {t : ℕ} {s' : Store} {u lo hi : ℕ} (v : View s t s' u lo hi) (old : Reads s t) where
  -- the marks of the range
  abbrev ms : List Mark
  ms = marks_within lo hi (marks_of s t)

  rise : Rises 0 ms
  rise = within_rises lo hi (marks_of s t) (marks_rise s t old)

  -- ---- its parts

  pub view_cover : linked_bytes s' u cover_at ≡ new_coverage ms
  view_cover = let (c, n, e, f) = v.cover in linked_some s' u cover_at c e ∙ f

  pub view_glyphs : glyphs_of s' u ≡ map (λ m. m.glyph) ms
  unfolding new_coverage
  view_glyphs = ap cover_glyphs view_cover ∙ cover_back (map (λ m. m.glyph) ms) rise

  pub view_mark_bytes : mark_bytes s' u ≡ new_mark_array lo ms
  view_mark_bytes = let (c, n, e, f, h) = v.marks in linked_some s' u mark_array_at c e ∙ f

  pub view_base_bytes : base_bytes s' u ≡ new_base_array (bases_in s t) (hi - lo)
  view_base_bytes = let (c, n, e, f, h) = v.bases in linked_some s' u base_array_at c e ∙ f

  pub view_base_cover : linked_bytes s' u base_cover_at ≡ linked_bytes s t base_cover_at
  view_base_cover = let (c, e, f, h) = v.base_cover in linked_some s' u base_cover_at c e ∙ h ∙ sym (linked_some s t base_cover_at c f)

  -- ---- its marks are the old ones of the range, reduced; its base anchors are the old ones

  pub view_marks : marks_of s' u ≡ reduced lo ms
  unfolding mark_anchor
  view_marks =
      let (c, n, e, f, h) = v.marks in
      marks_back s' u lo ms view_glyphs view_mark_bytes (λ k l. ap (λ (p : ℕ). child_at s' p (mark_slot k)) (linked_is s' u mark_array_at c e) ∙ h k l)

  pub view_bases : bases_in s' u ≡ bases_in s t
  view_bases = ap base_count view_base_bytes ∙ base_count_lem (bases_in s t) (hi - lo)

  pub view_anchor : (j c : ℕ) → j < bases_in s t → c < hi - lo → base_anchor s' u j c ≡ base_anchor s t j (lo + c)
  unfolding base_anchor
  view_anchor j c l h =
      let (p, n, e, f, k) = v.bases in
      let w = hi - lo in
      let slot : j * w + c < bases_in s t * w = omega (arith, mul-le-mul_right {m = j + 1} {n = bases_in s t} w (omega arith), add-mul j 1 w) in
      let base : (j * w + c) / w ≡ j = mul-add-div_right {m = w} (omega arith) j c ∙ ap (λ (d : ℕ). j + d) (div-eq_of_lt h) ∙ omega arith in
      let class : (j * w + c) % w ≡ c = mul-add-mod_self_right j w c ∙ mod-eq_of_lt h in
      ap₂ (λ (a b : ℕ). child_at s' a (base_slot (j * b + c))) (linked_is s' u base_array_at p e) v.classes
      ∙ k (j * w + c) slot
      ∙ ap₂ (λ (a b : ℕ). child_at s (base_array s t) (base_slot (a * classes_of s t + (lo + b)))) base class

  -- ---- its attachments are the old ones of the range

  view_place : (b : ℕ) → base_place s' u b ≡ base_place s t b
  unfolding base_place
  view_place b = ap₂ (λ (x : List ℕ) (n : ℕ). and_then (cover_place x b) λ j. given (ltb j n) j) view_base_cover view_bases

  place_below_lem : (b j : ℕ) → base_place s t b ≡ Some j → j < bases_in s t
  unfolding base_place and_then
  place_below_lem b j e = go (cover_place (linked_bytes s t base_cover_at) b) e
    where
      test : (i : ℕ) (x : Bool) → ltb i (bases_in s t) ≡ x → given x i ≡ Some j → j < bases_in s t
      test i true h f = let z : i ≡ j = cc in subst (λ (n : ℕ). n < bases_in s t) z (ltb-true i (bases_in s t) h)
      test i false h f = let z : ◌≡◌ {A = ℕ} 0 1 = cc in absurd (omega arith)

      go : (o : Option ℕ) → (and_then o λ j. given (ltb j (bases_in s t)) j) ≡ Some j → j < bases_in s t
      go None f = let z : ◌≡◌ {A = ℕ} 0 1 = cc in absurd (omega arith)
      go (Some i) f = test i (ltb i (bases_in s t)) refl f

  view_mark : (b : ℕ) (m : Mark) → lo ≤ m.class → m.class < hi → attach_mark s' u b (reduce lo m) ≡ attach_mark s t b m
  unfolding attach_mark and_then
  view_mark b m h k = go m.anchor (base_place s t b) refl
    where
      go : (a o : Option ℕ) → base_place s t b ≡ o
          → (and_then (base_place s' u b) λ j. and_then a λ a. and_then (base_anchor s' u j (m.class - lo)) λ c. Some (anchors a c))
          ≡ (and_then (base_place s t b) λ j. and_then a λ a. and_then (base_anchor s t j m.class) λ c. Some (anchors a c))
      go a None e = rw (view_place b, e)
      go None (Some j) e = rw (view_place b, e)
      go (Some a) (Some j) e =
          let z : lo + (m.class - lo) ≡ m.class = omega arith in
          let same = view_anchor j (m.class - lo) (place_below_lem b j e) (omega arith) ∙ ap (base_anchor s t j) z in
          rw (view_place b, e) (ap (λ (o : Option ℕ). and_then o λ c. Some (anchors a c)) same)

  pub view_attach : Reads s' u → (g b : ℕ) → attach_of s' u g b ≡ and_then (mark_of (marks_of s t) g) λ m. and_then (only lo hi m) (attach_mark s t b)
  unfolding and_then
  view_attach r g b =
      attach_by_mark s' u r g b
      ∙ ap (λ (o : Option Mark). and_then o (attach_mark s' u b)) found
      ∙ go (mark_of (marks_of s t) g)
    where
      found : mark_of (marks_of s' u) g ≡ and_then (and_then (mark_of (marks_of s t) g) (only lo hi)) λ m. Some (reduce lo m)
      found =
          ap (λ (x : List Mark). mark_of x g) view_marks
          ∙ mark_reduced lo ms g
          ∙ ap (λ (o : Option Mark). and_then o λ m. Some (reduce lo m)) (mark_within lo hi (marks_of s t) 0 g (marks_rise s t old))

      test : (m : Mark) (x : Bool) → in_classes lo hi m.class ≡ x
          → and_then (and_then (given x m) λ m. Some (reduce lo m)) (attach_mark s' u b) ≡ and_then (given x m) (attach_mark s t b)
      test m true e = let (h, k) = between_is lo hi m.class e in view_mark b m h k
      test m false e = refl

      go : (o : Option Mark) → and_then (and_then (and_then o (only lo hi)) λ m. Some (reduce lo m)) (attach_mark s' u b)
          ≡ and_then o λ m. and_then (only lo hi m) (attach_mark s t b)
      go None = refl
      go (Some m) = test m (in_classes lo hi m.class) refl
