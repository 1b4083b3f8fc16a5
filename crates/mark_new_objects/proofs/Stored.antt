-- What a caller has of the marks of a table in a store: the plan, and that the new objects are those of the split. Assumes nothing.
use Prim.Native.Nat.{ℕ, zero, suc, ◌+◌, ◌<◌, ◌≤◌}
use mathlib.Core.Path.{◌≡◌, sym, subst, ap, ap₂, ◌∙◌}
use mathlib.Core.Bool.{true, ◌&&◌}
use mathlib.Core.List.{List, [], ◌∷◌, ◌++◌, map}
use native.Mathlib.Omega.{arith}
use lib.ListN.{length, get_or, take}
use Rattle.folds.specs.Folds.{upto}
use Rattle.folds.specs.Lists.{is_some, Bytes}
use Rattle.folds.proofs.Tests.{and_both}
use Rattle.folds.proofs.Joined.{and_three}
use Rattle.folds.proofs.Folds.{length-upto, upto-part}
use Rattle.folds.proofs.Moved.{map-upto}
use Rattle.folds.proofs.FromTheFront.{flat-same}
use Rattle.ot_layouts.specs.Numbers.{u16_at}
use Rattle.ot_layouts.specs.Coverage.{Entry, cover_readable, Ascends}
use Rattle.ot_layouts.specs.MarkBasePos.{
  cover_at,
  base_cover_at,
  class_count_at,
  mark_array_at,
  base_array_at,
  mark_class,
  marks_readable,
  bases_readable,
}
use Rattle.ot_layouts.proofs.CoverageGlyphs.{Sorted, sorted_le, sorted_ascends, cover_sorted}
use Rattle.ot_layouts.proofs.Octets.{bytes_u16}
use Rattle.ot_layouts.proofs.RunStarts.{entry}
use Rattle.ot_layouts.proofs.Entries.{ascends_plain}
use Rattle.ot_ranges.specs.Ascending.{Ascending}
use Rattle.ot_ranges.proofs.Ascending.{ascending}
use Rattle.glyph_rules.specs.Entries.{within}
use Rattle.glyph_rules.proofs.Entries.{within_ascends}
use Rattle.cut_rules.specs.Ranges.{from, to}
use Rattle.cut_rules.specs.Places.{Places}
use Rattle.cut_parts.specs.Tables.{paired, low_at, high_at, entries_at}
use Rattle.cut_parts.specs.Order.{Arranged}
use Rattle.cut_parts.proofs.Arranging.{arranged_parted, kept_same, new_same}
use Rattle.store_rules.specs.Store.{Store, bytes_of, child_at, linked_at, linked_bytes}
use Rattle.store_rules.proofs.Bytes.{object_bytes_lem}
use Rattle.mark_rules.specs.Table.{
  Mark,
  classes_of,
  glyphs_of,
  mark_array,
  mark_bytes,
  marks_in,
  base_bytes,
  bases_in,
  parts_readable,
  mark_at,
  marks_of,
}
use Rattle.mark_rules.specs.Reads.{Reads}
use Rattle.mark_rules.specs.Written.{new_table, new_parts, new_objects, new_of}
use Rattle.mark_new_objects.specs.Marks.{entry_from, entries_from, marks_from}
use Rattle.mark_new_objects.specs.Planned.{PlannedParts}
use Rattle.mark_new_objects.specs.Objects.{table_objects, objects_of}
use Rattle.mark_new_objects.proofs.Marks.{parts_from, parts_from_lem, entries_back}

module _ (gs ks cs : List ℕ) (n : ℕ) where
  pub planned : (es : List Entry) → Arranged gs ks cs n es → Places n cs → 0 < length cs → Ascends 0 es → length es < 65536 → n < 65536
      → PlannedParts gs ks cs n
  planned es r p some up few count =
      record {
        parts = arranged_parted gs ks cs n es r p some;
        few = omega (arith, r.long);
        count = count;
        ascending = λ k h.
            let w = entries_at n cs es k in
            subst (λ (x : List Entry). Ascending (map (λ (e : Entry). e.glyph) x)) (sym (r.entries k h))
            (ascending (map (λ (e : Entry). e.glyph) w) (ascends_plain w 0 (within_ascends (low_at cs k) (high_at n cs k) es 0 up)));
      }

  -- the new objects are those of any marks with these entries
  module _ (ms : List Mark) (bases : ℕ) (r : Arranged gs ks cs n (entries_from ms)) (some : 0 < length cs) where
    parts_same : (lo hi : ℕ) → within lo hi (paired gs ks) ≡ within lo hi (entries_from ms)
        → new_parts (marks_from gs ks) bases lo hi ≡ new_parts ms bases lo hi
    parts_same lo hi e =
        parts_from_lem (marks_from gs ks) bases lo hi
        ∙ ap (λ (es : List Entry). parts_from bases lo hi (within lo hi es)) (entries_back (paired gs ks))
        ∙ ap (parts_from bases lo hi) e
        ∙ sym (parts_from_lem ms bases lo hi)

    pub same_objects : objects_of gs ks bases n cs ≡ new_objects ms bases n cs
    unfolding new_objects
    same_objects =
        ap₂ (λ (x y : List (List ℕ)). x ++ y)
        (flat-same (table_objects gs ks bases n cs) (λ j. new_table (from cs j) (to n cs j) ∷ new_parts ms bases (from cs j) (to n cs j)) (length cs)
        (λ j h.
        ap (λ (y : List (List ℕ)). new_table (from cs j) (to n cs j) ∷ y) (parts_same (from cs j) (to n cs j) (new_same gs ks cs n (entries_from ms) r j h))))
        (parts_same 0 (from cs 0) (kept_same gs ks cs n (entries_from ms) r some))

-- ---- of a table in a store

pub stored_objects : (s : Store) (t : ℕ) (gs ks cs : List ℕ) → Arranged gs ks cs (classes_of s t) (entries_from (marks_of s t)) → 0 < length cs
    → objects_of gs ks (bases_in s t) (classes_of s t) cs ≡ new_of s t cs
stored_objects s t gs ks cs r some = same_objects gs ks cs (classes_of s t) (marks_of s t) (bases_in s t) r some

-- the first of numbers that ascend
sorted_take : (n : ℕ) (gs : List ℕ) (lo hi : ℕ) → Sorted lo hi gs → Sorted lo hi (take n gs)
sorted_take zero gs lo hi a = sorted_le gs lo hi a
sorted_take (suc n) [] lo hi a = a
sorted_take (suc n) (g ∷ gs) lo hi a = (a.0, sorted_take n gs (g + 1) hi a.1)

module _ (s : Store) (t : ℕ) (reads : Reads s t) (octets : Bytes s.bytes) where
  -- the entries of its marks
  abbrev es : List Entry
  es = entries_from (marks_of s t)

  abbrev glyphs : List ℕ
  glyphs = glyphs_of s t

  -- how many there are
  abbrev m : ℕ
  m = marks_in s t

  -- a number in an object has two bytes
  bits : (k i : ℕ) → u16_at (bytes_of s k) i < 65536
  bits k = bytes_u16 (bytes_of s k) (object_bytes_lem s octets k)

  cover_read : cover_readable (linked_bytes s t cover_at) ≡ true
  unfolding parts_readable
  cover_read =
      let cover = is_some (child_at s t cover_at) && cover_readable (linked_bytes s t cover_at) in
      let base = is_some (child_at s t base_cover_at) && cover_readable (linked_bytes s t base_cover_at) in
      let marks = is_some (child_at s t mark_array_at) && marks_readable (classes_of s t) (mark_bytes s t) in
      let bases = is_some (child_at s t base_array_at) && bases_readable (classes_of s t) (base_bytes s t) in
      let (three, last) = and_both (cover && base && marks) bases reads.parts in
      let (first, second, third) = and_three cover base marks three in
      (and_both (is_some (child_at s t cover_at)) (cover_readable (linked_bytes s t cover_at)) first).1

  -- mark k
  abbrev mark : ℕ → Entry
  mark k = entry (get_or glyphs k 0) (mark_class (mark_bytes s t) k)

  pub entries_are : es ≡ upto mark m
  unfolding marks_of mark_at
  entries_are = map-upto entry_from (mark_at s t) m

  glyphs_are : map (λ (e : Entry). e.glyph) es ≡ take m glyphs
  glyphs_are =
      let z : 0 + m ≡ m = omega arith in
      ap (map (λ (e : Entry). e.glyph)) entries_are
      ∙ map-upto (λ (e : Entry). e.glyph) mark m
      ∙ upto-part (λ k. get_or glyphs k 0) glyphs 0 0 m (omega (arith, reads.enough))
      (λ j h. let q : j ≡ 0 + j = omega arith in ap (λ (i : ℕ). get_or glyphs i 0) q)
      ∙ ap (λ (i : ℕ). take i glyphs) z

  -- they ascend, below 65,536
  in_order_lem : (hi : ℕ) × (hi ≤ 65536) × Sorted 0 hi (map (λ (e : Entry). e.glyph) es)
  in_order_lem =
      let (hi, u, x) = cover_sorted (linked_bytes s t cover_at) cover_read in
      (hi, u (bits (linked_at s t cover_at)), subst (λ (l : List ℕ). Sorted 0 hi l) (sym glyphs_are) (sorted_take m glyphs 0 hi x))

  pub stored_ascend : Ascends 0 es
  stored_ascend = let (hi, h, x) = in_order_lem in sorted_ascends es 0 hi x

  pub stored_plan : (gs ks cs : List ℕ) → Arranged gs ks cs (classes_of s t) es → Places (classes_of s t) cs → 0 < length cs
      → PlannedParts gs ks cs (classes_of s t)
  stored_plan gs ks cs r p some =
      let many : length es ≡ m = ap length entries_are ∙ length-upto mark m in
      planned gs ks cs (classes_of s t) es r p some stored_ascend (omega (arith, bits (mark_array s t) 0)) (bits t class_count_at)
