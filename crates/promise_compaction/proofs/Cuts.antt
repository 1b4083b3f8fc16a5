-- A kept pair table is cut after a compaction where it would have been cut before, its links stand as they stood, and a split of it needs the same. Assumes
-- nothing.
use Rattle.std.specs.Prelude.{Option, Some, None}
use Prim.Native.Nat.{ℕ}
use mathlib.Core.Path.{◌≡◌, refl, sym, ap, ◌∙◌}
use mathlib.Core.Bool.{Bool, true, false, cond}
use mathlib.Core.List.{List, map}
use native.Mathlib.Omega.{arith}
use lib.ListN.{length, get_or}
use lib.Dec.{eqb}
use Rattle.folds.specs.Folds.{upto}
use Rattle.folds.specs.Lists.{is_some, join}
use Rattle.folds.proofs.Tests.{by_test}
use Rattle.ot_layouts.specs.Coverage.{Entry, cover_glyphs}
use Rattle.ot_layouts.specs.ClassDef.{class_of}
use Rattle.ot_layouts.specs.PairPos.{shape_of, cover_at, class1_at, class2_at, item_at, is_slot}
use Rattle.store_rules.specs.Store.{Store, size_of, child_at, linked_at, linked_bytes, all_at}
use Rattle.store_rules.specs.Reach.{item_size}
use Rattle.store_rules.proofs.Sound.{Fits}
use Rattle.store_rules.proofs.Lookups.{mapped, linked_is}
use Rattle.store_rules.proofs.Renumbered.{SameUnder, child_under, linked_under}
use Rattle.call_rules.specs.declared.Settings.{Settings}
use Rattle.call_rules.specs.Scratch.{Scratch, lengths_of, lengths_short}
use Rattle.cut_rules.specs.Cuts.{Rule, cuts_of}
use Rattle.compact_rules.specs.Kept.{renumber}
use Rattle.compact_rules.specs.Compacted.{compacted}
use Rattle.compact_rules.proofs.Numbers.{number_most}
use Rattle.compact_rules.proofs.Kept.{Keeps}
use Rattle.compact_rules.proofs.Objects.{objects_left_lem, size_kept}
use Rattle.compact_rules.proofs.SameReach.{item_size_kept}
use Rattle.pair_rules.specs.Rules.{rule1, rule2}
use Rattle.pair_rules.specs.Table.{shape, glyphs_of, entries_of, all_at_slots, of_items, rule_of, cut_places}
use Rattle.pair_rules.specs.Written.{new_objects, needs_of, needed}
use Rattle.pair_rules.specs.Reads.{Reads}
use Rattle.pair_rules.specs.Calls.{scratch_short}
use Rattle.pair_rules.proofs.Checks.{Parts, parts_read}
use Rattle.promise_compaction.proofs.Readings.{child_keeps, same_under, all-at_kept}
use Rattle.promise_compaction.proofs.Rests.{fewer_enough}

there : (new : ℕ → ℕ) (o : Option ℕ) → is_some (mapped new o) ≡ is_some o
there new None = refl
there new (Some c) = refl

-- entries, over the format, coverage and class definition 1
abbrev entries_by : Bool → List ℕ → List ℕ → List Entry
entries_by one cov class1 =
    cond one (upto (λ k. record { glyph = get_or (cover_glyphs cov) k 0; class = k }) (length (cover_glyphs cov)))
    (map (λ g. record { glyph = g; class = class_of class1 g }) (cover_glyphs cov))

module _ (s : Store) (f : Fits s) (keep : ℕ → Bool) (k : Keeps s keep) (how : Settings) (t : ℕ) (h : keep t ≡ true) (r : Reads s t) where
  abbrev left : Store
  left = compacted s keep

  abbrev new : ℕ → ℕ
  new = renumber keep

  same : SameUnder new s left t
  same = same_under s f keep k t h

  parts : Parts s t
  parts = parts_read s t r.parts

  -- the rule of table u with these bytes
  abbrev rule_for : Store → ℕ → List ℕ → Rule
  rule_for x u b =
      cond (eqb (shape_of b).format 1)
      (rule1 how (shape_of b).count (λ i. is_some (child_at x u (item_at (shape_of b) i))) (item_size x (of_items u (shape_of b))) (size_of x (linked_at x u cover_at)))
      (rule2 how (shape_of b).count (shape_of b).item (item_size x (of_items u (shape_of b))) (entries_of x u) (size_of x (linked_at x u class2_at)))

  linked_size : (q c : ℕ) → child_at s t q ≡ Some c → size_of left (linked_at left (new t) q) ≡ size_of s (linked_at s t q)
  linked_size q c e =
      ap (size_of left) (linked_is left (new t) q (new c) (child_under same q c e))
      ∙ size_kept s f keep k c (child_keeps s f keep k t q c h e)
      ∙ sym (ap (size_of s) (linked_is s t q c e))

  linked_same : (q : ℕ) → is_some (child_at left (new t) q) ≡ is_some (child_at s t q)
  linked_same q = ap is_some (same.links q) ∙ there new (child_at s t q)

  sizes_same : (a i : ℕ) → item_size left (of_items (new t) (shape s t)) a i ≡ item_size s (of_items t (shape s t)) a i
  sizes_same a i = item_size_kept s f keep k t (item_at (shape s t)) h a i

  entries_same : entries_of left (new t) ≡ entries_of s t
  unfolding entries_of
  entries_same =
      let (c, ec) = parts.cover in
      (λ i. entries_by (eqb (shape_of (same.bytes i)).format 1) (linked_under same cover_at c ec i) (linked_bytes left (new t) class1_at))
      ∙ by_test (eqb (shape s t).format 1)
      (λ e. rw e)
      (λ e. let (d, ed) = parts.class1 e in ap (entries_by (eqb (shape s t).format 1) (linked_bytes s t cover_at)) (linked_under same class1_at d ed))

  rule_kept : rule_of how left (new t) ≡ rule_of how s t
  unfolding rule_of
  rule_kept =
      ap (rule_for left (new t)) same.bytes
      ∙ by_test (eqb (shape s t).format 1)
      (λ e.
      let (c, ec) = parts.cover in
      let cover = linked_size cover_at c ec in
      rw e (λ d. rule1 how (shape s t).count (λ i. linked_same (item_at (shape s t) i) d) (λ a i. sizes_same a i d) (cover d)))
      (λ e.
      let (c, ec) = parts.class2 e in
      let class2 = linked_size class2_at c ec in
      let entries = entries_same in
      rw e (λ d. rule2 how (shape s t).count (shape s t).item (λ a i. sizes_same a i d) (entries d) (class2 d)))

  pub cuts_kept : cut_places how left (new t) ≡ cut_places how s t
  unfolding cut_places
  cuts_kept = ap cuts_of rule_kept

  -- ---- what a split of it asks

  -- 7, where it looks at the table's own links
  pub slots_kept : all_at_slots left (new t) ≡ all_at_slots s t
  unfolding all_at_slots
  slots_kept = ap (λ (b : List ℕ). all_at left (new t) (is_slot (shape_of b))) same.bytes ∙ all-at_kept s f keep k t (is_slot (shape s t)) h

  glyphs_kept : glyphs_of left (new t) ≡ glyphs_of s t
  glyphs_kept = let (c, ec) = parts.cover in ap cover_glyphs (linked_under same cover_at c ec)

  -- 6 counts the objects that are left
  pub scratch_kept : (w : Scratch) → scratch_short s t w ≡ false → scratch_short left (new t) w ≡ false
  unfolding scratch_short
  scratch_kept w e =
      (λ i. lengths_short (lengths_of w) left.object_count (length (glyphs_kept i)) (shape_of (same.bytes i)).count)
      ∙ fewer_enough (lengths_of w) left.object_count s.object_count (length (glyphs_of s t)) (shape s t).count
      (omega (arith, objects_left_lem s keep, number_most keep s.object_count)) e

  -- 8
  pub needs_kept : (cs : List ℕ) → needed left (new t) cs ≡ needed s t cs
  unfolding needed
  needs_kept cs =
      λ i. needs_of (shape_of (same.bytes i)) (length cs) (length (join (new_objects (shape_of (same.bytes i)) (same.bytes i) (entries_same i) cs)))
