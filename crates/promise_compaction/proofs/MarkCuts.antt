-- A kept mark-to-base table is cut after a compaction where it would have been cut before, its links stand as they stood, and a split of it needs the same.
-- Assumes nothing.
use Rattle.std.specs.Prelude.{Some}
use Prim.Native.Nat.{ℕ, ◌+◌, ◌-◌, ◌*◌}
use mathlib.Core.Path.{◌≡◌, sym, ap, ap₂, ◌∙◌}
use mathlib.Core.Bool.{Bool, true, false, ◌&&◌, ◌||◌}
use mathlib.Core.List.{List, [], ◌∷◌, ◌++◌, map, map-map}
use mathlib.Core.Logic.{⊎_elim}
use native.Mathlib.Omega.{arith}
use lib.ListN.{length, get_or, get_or-map}
use Rattle.folds.specs.Folds.{flat, upto}
use Rattle.folds.specs.Lists.{join}
use Rattle.folds.proofs.Tests.{and_both}
use Rattle.folds.proofs.Joined.{or_either}
use Rattle.folds.proofs.Moved.{length-map, map-upto, sift-map}
use Rattle.ot_layouts.specs.Numbers.{words}
use Rattle.ot_layouts.specs.Coverage.{coverage_bytes, cover_glyphs}
use Rattle.ot_layouts.specs.MarkBasePos.{
  class_count,
  cover_at,
  base_cover_at,
  mark_array_at,
  base_array_at,
  is_table_slot,
  is_mark_slot,
  is_base_slot,
  mark_count,
  base_count,
  mark_class,
  mark_slot,
  class_before,
  column_at,
}
use Rattle.store_rules.specs.Store.{Store, Link, size_of, child_at, linked_at, linked_bytes, is_offset, offset_of, all_at}
use Rattle.store_rules.specs.SlotLinks.{links_from}
use Rattle.store_rules.specs.Reach.{item_size, reach_of}
use Rattle.store_rules.proofs.Sound.{Fits}
use Rattle.store_rules.proofs.Lookups.{mapped, linked_is}
use Rattle.store_rules.proofs.Renumbered.{SameUnder, child_under, linked_under}
use Rattle.call_rules.specs.declared.Settings.{Settings}
use Rattle.call_rules.specs.Scratch.{Scratch, lengths_of, lengths_short}
use Rattle.cut_rules.specs.Cuts.{cuts_of}
use Rattle.cut_rules.specs.Ranges.{from, to}
use Rattle.compact_rules.specs.Kept.{renumber}
use Rattle.compact_rules.specs.Compacted.{compacted, keeps_ends, renumbered}
use Rattle.compact_rules.proofs.Numbers.{number_most}
use Rattle.compact_rules.proofs.Kept.{Keeps}
use Rattle.compact_rules.proofs.Objects.{objects_left_lem, size_kept}
use Rattle.compact_rules.proofs.Links.{offset_moved, offset_owner, child_kept, links_from_kept}
use Rattle.compact_rules.proofs.SameReach.{reach_size_kept}
use Rattle.mark_rules.specs.Rules.{mark_rule}
use Rattle.mark_rules.specs.Table.{
  Mark,
  classes_of,
  glyphs_of,
  mark_array,
  mark_bytes,
  marks_in,
  base_array,
  bases_in,
  mark_anchor,
  mark_at,
  marks_of,
  in_classes,
  marks_within,
  marks_of_class,
  all_at_slots,
  of_classes,
  rule_of,
  cut_places,
}
use Rattle.mark_rules.specs.Written.{no_mark, new_table, new_coverage, new_mark_array, new_base_array, new_parts, new_objects, new_of, need_objects, need_links, needs_of, needed}
use Rattle.mark_rules.specs.Reads.{Reads}
use Rattle.mark_rules.specs.Calls.{scratch_short}
use Rattle.mark_rules.proofs.Checks.{Parts, parts_read}
use Rattle.promise_compaction.proofs.Readings.{child_keeps, same_under, all-at_kept}
use Rattle.promise_compaction.proofs.Rests.{fewer_enough}

-- ---- marks, of which the anchors alone have other numbers

abbrev mark_then : (ℕ → ℕ) → Mark → Mark
mark_then new m = record { glyph = m.glyph; class = m.class; anchor = mapped new m.anchor }

module _ (new : ℕ → ℕ) (ms : List Mark) where
  within_then : (lo hi : ℕ) → marks_within lo hi (map (mark_then new) ms) ≡ map (mark_then new) (marks_within lo hi ms)
  unfolding marks_within
  within_then lo hi = sift-map (mark_then new) (λ m. in_classes lo hi m.class) ms

-- what is written of them says nothing of anchors
coverage_then : (new : ℕ → ℕ) (ms : List Mark) → new_coverage (map (mark_then new) ms) ≡ new_coverage ms
unfolding new_coverage
coverage_then new ms = ap coverage_bytes (map-map (λ (m : Mark). m.glyph) (mark_then new) ms)

array_then : (new : ℕ → ℕ) (lo : ℕ) (ms : List Mark) → new_mark_array lo (map (mark_then new) ms) ≡ new_mark_array lo ms
unfolding new_mark_array
array_then new lo ms =
    let many = length-map (mark_then new) ms in
    let class : (k : ℕ) → (get_or (map (mark_then new) ms) k no_mark).class ≡ (get_or ms k no_mark).class
    = λ k. ap (λ (m : Mark). m.class) (get_or-map (mark_then new) ms k no_mark) in
    λ i. words (many i ∷ flat (λ k. (class k i - lo) ∷ 0 ∷ []) (many i))

parts_then : (new : ℕ → ℕ) (ms : List Mark) (bases lo hi : ℕ) → new_parts (map (mark_then new) ms) bases lo hi ≡ new_parts ms bases lo hi
unfolding new_parts
parts_then new ms bases lo hi =
    ap (λ (xs : List Mark). new_coverage xs ∷ new_mark_array lo xs ∷ new_base_array bases (hi - lo) ∷ []) (within_then new ms lo hi)
    ∙ ap₂ (λ (x y : List ℕ). x ∷ y ∷ new_base_array bases (hi - lo) ∷ []) (coverage_then new (marks_within lo hi ms)) (array_then new lo (marks_within lo hi ms))

objects_then : (new : ℕ → ℕ) (ms : List Mark) (bases n : ℕ) (cs : List ℕ) → new_objects (map (mark_then new) ms) bases n cs ≡ new_objects ms bases n cs
unfolding new_objects
objects_then new ms bases n cs =
    λ i. flat (λ j. new_table (from cs j) (to n cs j) ∷ parts_then new ms bases (from cs j) (to n cs j) i) (length cs) ++ parts_then new ms bases 0 (from cs 0) i

module _ (s : Store) (f : Fits s) (keep : ℕ → Bool) (k : Keeps s keep) (how : Settings) (t : ℕ) (h : keep t ≡ true) (r : Reads s t) where
  abbrev left : Store
  left = compacted s keep

  abbrev new : ℕ → ℕ
  new = renumber keep

  same : SameUnder new s left t
  same = same_under s f keep k t h

  parts : Parts s t
  parts = parts_read s t r.parts

  -- ---- a part under its new number

  module _ (q c : ℕ) (e : child_at s t q ≡ Some c) where
    part-kept : keep (linked_at s t q) ≡ true
    part-kept = ap keep (linked_is s t q c e) ∙ child_keeps s f keep k t q c h e

    part-new : linked_at left (new t) q ≡ new (linked_at s t q)
    part-new = linked_is left (new t) q (new c) (child_under same q c e) ∙ ap new (sym (linked_is s t q c e))

    part-size : size_of left (linked_at left (new t) q) ≡ size_of s (linked_at s t q)
    part-size = ap (size_of left) part-new ∙ size_kept s f keep k (linked_at s t q) part-kept

    part-offset : (l : Link) → keeps_ends keep l ≡ true → offset_of (linked_at left (new t) q) (renumbered new l) ≡ offset_of (linked_at s t q) l
    part-offset l b = ap (λ (a : ℕ). offset_of a (renumbered new l)) part-new ∙ offset_moved s f keep k (linked_at s t q) part-kept l b

    part-links : links_from left (linked_at left (new t) q) ≡ links_from s (linked_at s t q)
    part-links = ap (links_from left) part-new ∙ links_from_kept s f keep k (linked_at s t q) part-kept

    part-slots : (slot : ℕ → Bool) → all_at left (linked_at left (new t) q) slot ≡ all_at s (linked_at s t q) slot
    part-slots slot = ap (λ (a : ℕ). all_at left a slot) part-new ∙ all-at_kept s f keep k (linked_at s t q) slot part-kept

  cover_same : linked_bytes left (new t) cover_at ≡ linked_bytes s t cover_at
  cover_same = let (c, e) = parts.cover in linked_under same cover_at c e

  array_same : linked_bytes left (new t) mark_array_at ≡ mark_bytes s t
  array_same = let (c, e) = parts.marks in linked_under same mark_array_at c e

  bases_same : linked_bytes left (new t) base_array_at ≡ linked_bytes s t base_array_at
  bases_same = let (c, e) = parts.bases in linked_under same base_array_at c e

  marks_then : marks_of left (new t) ≡ map (mark_then new) (marks_of s t)
  unfolding marks_of mark_at mark_anchor
  marks_then =
      let (m, em) = parts.marks in
      let anchor : (i : ℕ) → child_at left (mark_array left (new t)) (mark_slot i) ≡ mapped new (child_at s (mark_array s t) (mark_slot i))
      = λ i. ap (λ (a : ℕ). child_at left a (mark_slot i)) (part-new mark_array_at m em) ∙ child_kept s f keep k (mark_array s t) (part-kept mark_array_at m em) (mark_slot i) in
      (λ d. upto (λ i. record { glyph = get_or (cover_glyphs (cover_same d)) i 0; class = mark_class (array_same d) i; anchor = anchor i d }) (mark_count (array_same d)))
      ∙ sym (map-upto (mark_then new) (mark_at s t) (marks_in s t))

  -- ---- its cuts

  -- the links of some classes, over the arrays' offsets and what tells the classes
  abbrev classed : ℕ → ℕ → Bool → Bool → List ℕ → List ℕ → ℕ → Bool
  classed lo hi of_marks of_bases marks own q = of_marks && in_classes lo hi (class_before marks q) || of_bases && in_classes lo hi (column_at (class_count own) q)

  sizes_same : (lo hi : ℕ) → reach_of left (of_classes left (new t) lo hi) ≡ reach_of s (of_classes s t lo hi)
  unfolding of_classes
  sizes_same lo hi = reach_size_kept s f keep k (of_classes s t lo hi) (of_classes left (new t) lo hi) of_kept agree
    where
      agree : (l : Link) → keeps_ends keep l ≡ true → of_classes left (new t) lo hi (renumbered new l) ≡ of_classes s t lo hi l
      agree l e =
          let (m, em) = parts.marks in
          let (b, eb) = parts.bases in
          λ i. classed lo hi (part-offset mark_array_at m em l e i) (part-offset base_array_at b eb l e i) (array_same i) (same.bytes i) l.position

      of_kept : (l : Link) → of_classes s t lo hi l ≡ true → (is_offset l ≡ true) × (keep l.parent ≡ true)
      of_kept l e =
          let (m, em) = parts.marks in
          let (b, eb) = parts.bases in
          ⊎_elim
          (λ x. offset_owner s f keep k (mark_array s t) (part-kept mark_array_at m em) l (and_both (offset_of (mark_array s t) l) (in_classes lo hi (class_before (mark_bytes s t) l.position)) x).0)
          (λ x. offset_owner s f keep k (base_array s t) (part-kept base_array_at b eb) l (and_both (offset_of (base_array s t) l) (in_classes lo hi (column_at (classes_of s t) l.position)) x).0)
          (or_either _ _ e)

  items_same : (a i : ℕ) → item_size left (of_classes left (new t)) a i ≡ item_size s (of_classes s t) a i
  unfolding item_size
  items_same a i = ap₂ (λ (x y : ℕ). x - y) (sizes_same a (i + 1)) (sizes_same a i)

  class_marks_lem : (i : ℕ) → marks_of_class left (new t) i ≡ marks_of_class s t i
  class_marks_lem i =
      ap (λ (ms : List Mark). length (marks_within i (i + 1) ms)) marks_then
      ∙ ap length (within_then new (marks_of s t) i (i + 1))
      ∙ length-map (mark_then new) (marks_within i (i + 1) (marks_of s t))

  pub mark_cuts_kept : cut_places how left (new t) ≡ cut_places how s t
  unfolding cut_places rule_of
  mark_cuts_kept =
      let (c, e) = parts.base_cover in
      let cover = part-size base_cover_at c e in
      λ d. cuts_of (mark_rule how (class_count (same.bytes d)) (cover d) (base_count (bases_same d)) (λ i. class_marks_lem i d) (λ a i. items_same a i d))

  -- ---- what a split of it asks

  -- 7, where it looks at the links of the table and of its arrays
  pub mark_slots_kept : all_at_slots left (new t) ≡ all_at_slots s t
  unfolding all_at_slots
  mark_slots_kept =
      let (m, em) = parts.marks in
      let (b, eb) = parts.bases in
      let own = all-at_kept s f keep k t is_table_slot h in
      let marks = part-slots mark_array_at m em is_mark_slot in
      let bases = part-slots base_array_at b eb is_base_slot in
      λ i. own i && marks i && bases i

  -- 6 counts the objects that are left
  pub mark_scratch_kept : (w : Scratch) → scratch_short s t w ≡ false → scratch_short left (new t) w ≡ false
  unfolding scratch_short
  mark_scratch_kept w e =
      (λ i. lengths_short (lengths_of w) left.object_count (length (cover_glyphs (cover_same i))) (class_count (same.bytes i)))
      ∙ fewer_enough (lengths_of w) left.object_count s.object_count (length (glyphs_of s t)) (classes_of s t)
      (omega (arith, objects_left_lem s keep, number_most keep s.object_count)) e

  -- 8
  pub mark_needs_kept : (cs : List ℕ) → needed left (new t) cs ≡ needed s t cs
  unfolding needed needs_of need_links
  mark_needs_kept cs =
      let (m, em) = parts.marks in
      let (b, eb) = parts.bases in
      let marks = part-links mark_array_at m em in
      let bases = part-links base_array_at b eb in
      let objects : new_of left (new t) cs ≡ new_of s t cs
      = (λ i. new_objects (marks_then i) (base_count (bases_same i)) (class_count (same.bytes i)) cs) ∙ objects_then new (marks_of s t) (bases_in s t) (classes_of s t) cs in
      λ i. record { objects = need_objects (length cs); links = 4 * length cs + marks i + bases i; bytes = length (join (objects i)); entries = length cs }
