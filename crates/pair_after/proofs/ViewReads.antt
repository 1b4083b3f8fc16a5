-- A table of a range can be read: 1 to 5 do not apply to it. Assumes nothing.
use Prim.Native.Nat.{ℕ, ◌+◌, ◌-◌, ◌<◌, ◌≤◌, min}
use mathlib.Core.Path.{◌≡◌, sym, ap, ◌∙◌}
use mathlib.Core.Bool.{true, false, ◌&&◌, ◌||◌}
use mathlib.Core.List.{List, map}
use native.Mathlib.Omega.{arith}
use lib.ListN.{length, get_or}
use lib.Dec.{eqb, ltb}
use borrow.Author.Tests.{ltb-false, le-ltb}
use Rattle.folds.specs.Lists.{is_some, Bytes}
use Rattle.folds.proofs.Tests.{and_intro, by_test}
use Rattle.folds.proofs.Folds.{length-upto}
use Rattle.folds.proofs.Joined.{three_hold}
use Rattle.folds.proofs.Moved.{length-map}
use Rattle.ot_layouts.specs.Coverage.{Entry, coverage_bytes, cover_readable, Ascends, Under}
use Rattle.ot_layouts.specs.ClassDef.{class_def_bytes, class_readable}
use Rattle.ot_layouts.specs.PairPos.{Shape, item_at, format_of}
use Rattle.ot_layouts.proofs.Runs.{under_sift}
use Rattle.ot_layouts.proofs.CoverageRoundTrip.{cover_readable_lem}
use Rattle.ot_layouts.proofs.ClassDefRoundTrip.{class_readable_lem}
use Rattle.ot_layouts.proofs.RunStarts.{entry}
use Rattle.ot_layouts.proofs.Shapes.{header_long, format_test}
use Rattle.ot_layouts.proofs.Entries.{ascends_plain}
use Rattle.store_rules.specs.Store.{Store, sound, child_at, bytes_of, linked_bytes}
use Rattle.glyph_rules.specs.Entries.{within, reduced}
use Rattle.pair_rules.specs.Table.{entries_of, shape, parts_readable, glyphs_of}
use Rattle.store_rules.proofs.Lookups.{linked_some}
use Rattle.glyph_rules.proofs.Entries.{under_reduced, in_range, within_upto}
use Rattle.pair_rules.proofs.Entries.{entries1}
use Rattle.pair_rules.specs.Reads.{Reads}
use Rattle.pair_rules.proofs.Checks.{entries_ascend, entries_under, class_read}
use Rattle.pair_after.proofs.View.{View, renumbered, within_up, view_test, renumbered_up, view_glyphs, view_format, view_shape}

module _ {s : Store} {t : ℕ} {s' : Store} {u lo hi : ℕ} (v : View s t s' u lo hi) (old : Reads s t) (sounds : sound s' ≡ true) (used : u < s'.object_count)
    (octets : Bytes s.bytes) where
  abbrev es : List Entry
  es = within lo hi (entries_of s t)

  up : Ascends 0 (entries_of s t)
  up = entries_ascend s t old

  own_under : Under 65536 (renumbered v up)
  unfolding within
  own_under = under_reduced lo es 65536 (under_sift (in_range lo hi) (entries_of s t) 65536 (entries_under s t old octets))

  pub view_cover : linked_bytes s' u 2 ≡ coverage_bytes (map (λ e. e.glyph) es)
  view_cover = let (c, n, e, f) = v.cover in linked_some s' u 2 c e ∙ f

  pub view_class1 : eqb (shape s t).format 1 ≡ false → linked_bytes s' u 8 ≡ class_def_bytes (reduced lo es)
  view_class1 z = let (c, n, e, f) = v.class1 z in linked_some s' u 8 c e ∙ f

  view_class2 : eqb (shape s t).format 1 ≡ false → linked_bytes s' u 10 ≡ linked_bytes s t 10
  view_class2 z = let (d, x, y, w) = v.class2 z in linked_some s' u 10 d x ∙ w ∙ sym (linked_some s t 10 d y)

  view_parts : parts_readable s' u ≡ true
  unfolding parts_readable
  view_parts =
      let (c, n, e, f) = v.cover in
      and_intro (is_some (child_at s' u 2) && cover_readable (linked_bytes s' u 2)) _
      (and_intro (is_some (child_at s' u 2)) (cover_readable (linked_bytes s' u 2)) (ap is_some e)
      (ap cover_readable view_cover ∙ cover_readable_lem (map (λ e. e.glyph) es) (ascends_plain es 0 (within_up v up))))
      (by_test (eqb (shape s t).format 1) (λ z. rw (view_test v up ∙ z)) (λ z. rw (view_test v up ∙ z) (classes z)))
    where
      classes : eqb (shape s t).format 1 ≡ false → (is_some (child_at s' u 8) && class_readable (linked_bytes s' u 8) && is_some (child_at s' u 10) && class_readable (linked_bytes s' u 10)) ≡ true
      classes z =
          let (c, n, e, f) = v.class1 z in
          let (d, x, y, w) = v.class2 z in
          let (p, q, r, o) = class_read s t old.parts z in
          and_intro _ _ (three_hold (is_some (child_at s' u 8)) (class_readable (linked_bytes s' u 8)) (is_some (child_at s' u 10)) (ap is_some e)
          (ap class_readable (view_class1 z) ∙ class_readable_lem (reduced lo es) (renumbered_up v up) own_under)
          (ap is_some x)) (ap class_readable (view_class2 z) ∙ o)

  -- in format 1 a table of n items has n covered glyphs
  view_many : eqb (shape s t).format 1 ≡ true → (shape s t).count ≤ length (glyphs_of s t) → length (glyphs_of s' u) ≡ hi - lo
  view_many e h =
      let gs = glyphs_of s t in
      let hh = v.high in
      ap length (view_glyphs v up) ∙ length-map (λ (e : Entry). e.glyph) es
      ∙ ap length (ap (within lo hi) (entries1 s t e) ∙ within_upto (λ k. get_or gs k 0) lo hi (length gs)) ∙ length-upto (λ k. entry (get_or gs (lo + k) 0) (lo + k)) (min (length gs) hi - lo) ∙ omega arith

  pub view_reads : Reads s' u
  view_reads =
      record {
        sounds = sounds;
        used = used;
        two = omega (arith, v.long, header_long (bytes_of s t));
        known = ap (λ (n : ℕ). eqb n 1 || eqb n 2) (view_format v) ∙ old.known;
        exactly = v.long ∙ sym (ap (λ (sh : Shape). item_at sh sh.count) (view_shape v));
        parts = view_parts;
        enough = by_test (eqb (format_of (bytes_of s t)) 1) (λ e. plenty e) (λ e. rw (view_format v, e));
      }
    where
      plenty : eqb (format_of (bytes_of s t)) 1 ≡ true → (eqb (format_of (bytes_of s' u)) 1 && ltb (length (glyphs_of s' u)) (shape s' u).count) ≡ false
      plenty e =
          let q : ltb (length (glyphs_of s t)) (shape s t).count ≡ false = rw e at old.enough in
          let n = view_many (format_test (bytes_of s t) ∙ e) (ltb-false (length (glyphs_of s t)) (shape s t).count q) in
          let c : (shape s' u).count ≡ hi - lo = ap (λ (sh : Shape). sh.count) (view_shape v) in
          rw (view_format v, e) (le-ltb (length (glyphs_of s' u)) (shape s' u).count (omega arith))
