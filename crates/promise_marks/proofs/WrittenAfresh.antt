-- Each table is written afresh, from the old table alone, and can be read. Assumes nothing.
use Prim.Native.Nat.{ℕ, zero, suc, ◌+◌, ◌-◌, ◌*◌, ◌<◌, ◌≤◌}
use mathlib.Core.Path.{◌≡◌, sym, ap, subst, ◌∙◌}
use mathlib.Core.Bool.{true}
use mathlib.Core.List.{List, map}
use native.Mathlib.Omega.{arith}
use lib.ListN.{length, get_or}
use Rattle.folds.proofs.Moved.{length-map}
use Rattle.folds.proofs.FromTheFront.{upto-at}
use Rattle.folds.proofs.Each.{each_at}
use Rattle.ot_layouts.specs.Coverage.{cover_readable}
use Rattle.ot_layouts.specs.MarkBasePos.{cover_at, mark_array_at, base_array_at, mark_count, mark_class}
use Rattle.ot_layouts.proofs.CoverageRoundTrip.{cover_readable_lem}
use Rattle.store_rules.specs.Store.{Store, sound}
use Rattle.store_rules.specs.Appended.{new_number}
use Rattle.store_rules.proofs.Lookups.{linked_is}
use Rattle.mark_rules.specs.Table.{Mark, classes_of, marks_in, bases_in, mark_bytes, marks_of, marks_within, cut_places}
use Rattle.mark_rules.specs.Written.{new_coverage, per_table, new_tables, no_mark, split_store}
use Rattle.mark_rules.specs.Reads.{Reads}
use Rattle.mark_rules.proofs.Checks.{parts_read, read_parts, reads_no_case}
use Rattle.mark_rules.proofs.Marks.{within_each, marks_rise, within_rises}
use Rattle.mark_rules.proofs.NewArrays.{array_long, array_count, array_class, base_long}
use Rattle.promise_marks.specs.Demands.{Afresh, AllAfresh, WrittenAfresh}
use Rattle.promise_marks.proofs.Ready.{Ready, objects_then, new_used, splits_ready, store_written}
use Rattle.promise_marks.proofs.NewBytes.{kept_bytes_lem}
use Rattle.promise_marks.proofs.View.{
  View,
  view_cover,
  view_glyphs,
  view_mark_bytes,
  view_base_bytes,
  view_base_cover,
  view_marks,
  view_bases,
  view_anchor,
}
use Rattle.promise_marks.proofs.KeptAndNew.{view_kept, view_new, bytes_new, tables, each_view}
use Rattle.promise_marks.proofs.StaysSound.{sound_then}

-- ---- a view is a table written afresh

module _ {s : Store} {t : ℕ} {s' : Store} {u lo hi : ℕ} (v : View s t s' u lo hi) (old : Reads s t)
    (sounds : sound s' ≡ true) (used : u < s'.object_count) where
  abbrev ms : List Mark
  ms = marks_within lo hi (marks_of s t)

  count_is_lem : marks_in s' u ≡ length ms
  count_is_lem = ap mark_count (view_mark_bytes v old) ∙ array_count lo ms

  cover_reads_lem : cover_readable (new_coverage ms) ≡ true
  unfolding new_coverage
  cover_reads_lem = cover_readable_lem (map (λ m. m.glyph) ms) (within_rises lo hi (marks_of s t) (marks_rise s t old))

  class_low : (i : ℕ) → i < marks_in s' u → mark_class (mark_bytes s' u) i < classes_of s' u
  class_low i l =
      let h : i < length ms = omega (arith, count_is_lem) in
      let (a, b) = each_at (λ m. (lo ≤ m.class) × (m.class < hi)) ms (within_each lo hi (marks_of s t)) i h no_mark in
      omega (arith, ap (λ (b : List ℕ). mark_class b i) (view_mark_bytes v old), array_class lo ms i h, v.classes)

  bases_long_lem : 2 + 2 * (bases_in s t * (hi - lo)) ≡ 2 + 2 * (bases_in s' u * classes_of s' u)
  bases_long_lem = sym (ap (λ (n : ℕ). 2 + 2 * (n * classes_of s' u)) (view_bases v old) ∙ ap (λ (n : ℕ). 2 + 2 * (bases_in s t * n)) v.classes)

  pub view_reads : Reads s' u
  view_reads =
      let (c, cn, ce, cf) = v.cover in
      let (m, mn, me, mf, mh) = v.marks in
      let (b, bn, be, bf, bh) = v.bases in
      let (d, de, df, dh) = v.base_cover in
      record {
        sounds = sounds;
        used = used;
        known = v.known;
        exactly = v.exactly;
        parts =
            read_parts s' u
            (record {
              cover = (c, ce);
              cover_reads = ap cover_readable (view_cover v old) ∙ cover_reads_lem;
              base_cover = (d, de);
              base_cover_reads = ap cover_readable (view_base_cover v old) ∙ (parts_read s t old.parts).base_cover_reads;
              marks = (m, me);
              marks_long = ap length (view_mark_bytes v old) ∙ array_long lo ms ∙ ap (λ (n : ℕ). 2 + 4 * n) (sym count_is_lem);
              classes_low = class_low;
              bases = (b, be);
              bases_long = ap length (view_base_bytes v old) ∙ base_long (bases_in s t) (hi - lo) ∙ bases_long_lem;
            });
        enough = omega (arith, count_is_lem, ap length (view_glyphs v old), length-map (λ (m : Mark). m.glyph) ms);
      }

  afresh : Afresh s t s' u lo hi
  afresh =
      let (c, cn, ce, cf) = v.cover in
      let (m, mn, me, mf, mh) = v.marks in
      let (b, bn, be, bf, bh) = v.bases in
      let (d, de, df, dh) = v.base_cover in
      record {
        readable = reads_no_case s' u view_reads;
        classes = v.classes;
        covers = view_glyphs v old;
        cover_bytes = view_cover v old;
        cover_new = omega (arith, linked_is s' u cover_at c ce);
        marks_bytes = view_mark_bytes v old;
        marks_new = omega (arith, linked_is s' u mark_array_at m me);
        marks = view_marks v old;
        bases_bytes = view_base_bytes v old;
        bases_new = omega (arith, linked_is s' u base_array_at b be);
        bases = λ j k l h. view_anchor v old j k l (omega arith);
        shared = de ∙ sym df;
      }

-- ---- the tables of a split

module _ (s : Store) (t : ℕ) (cs : List ℕ) (g : Ready s t cs) where
  abbrev s' : Store
  s' = split_store s t cs

  kept_used : t < s'.object_count
  kept_used = omega (arith, g.reads.used, objects_then s t cs g)

  pub kept_reads : Reads s' t
  kept_reads = view_reads (view_kept s t cs g) g.reads (sound_then s t cs g) kept_used

  table_used : (j : ℕ) → j < length cs → new_number s per_table j < s'.object_count
  table_used j l = omega (arith, new_used s t cs g j 0 l (omega arith))

  all-afresh : AllAfresh s t s' cs
  all-afresh =
      record {
        kept = afresh (view_kept s t cs g) g.reads (sound_then s t cs g) kept_used;
        kept_bytes = kept_bytes_lem s t cs g;
        fresh = λ j l. afresh (view_new s t cs g j l) g.reads (sound_then s t cs g) (table_used j l);
        fresh_bytes = λ j l. bytes_new s t cs g j l;
      }

  each_used : (k : ℕ) → k < length cs + 1 → get_or (tables s t cs g) k 0 < s'.object_count
  unfolding new_tables
  each_used zero l = kept_used
  each_used (suc j) l =
      subst (λ (n : ℕ). n < s'.object_count) (sym (upto-at (new_number s per_table) (length cs) j 0 (omega arith))) (table_used j (omega arith))

  -- each resulting table can be read
  pub each_reads : (k : ℕ) → k < length cs + 1 → Reads s' (get_or (tables s t cs g) k 0)
  each_reads k l = view_reads (each_view s t cs g k l) g.reads (sound_then s t cs g) (each_used k l)

-- "Each table with its own parts is what writing its range afresh would give."
pub written_afresh : WrittenAfresh
written_afresh how s t w list p =
    let (g, e) = splits_ready how s t w list p in
    rw (store_written how s t w list p) (all-afresh s t (cut_places how s t) g)
