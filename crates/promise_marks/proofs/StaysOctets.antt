-- The data stay bytes: every number that is written fits its two bytes. Assumes nothing.
use Prim.Native.Nat.{ℕ, zero, suc, ◌+◌, ◌-◌, ◌*◌, ◌<◌}
use mathlib.Core.Path.{sym, subst}
use mathlib.Core.List.{List, [], ◌∷◌, map}
use native.Mathlib.Omega.{arith}
use native.Mathlib.Nat.{not-suc-le-zero}
use lib.ListN.{length, get_or, replicate}
use Rattle.folds.specs.Folds.{flat}
use Rattle.folds.specs.Lists.{Bytes}
use Rattle.folds.proofs.Moved.{sift-both}
use Rattle.folds.proofs.Each.{Each, each_append, each_flat, each_upto, each_sift, each_at}
use Rattle.folds.proofs.Bytes.{bytes_none, bytes_append, bytes_zeros}
use Rattle.ot_layouts.specs.Numbers.{be16, words, u16_at}
use Rattle.ot_layouts.specs.Coverage.{Under, plain}
use Rattle.ot_layouts.specs.MarkBasePos.{cover_at, class_count_at}
use Rattle.ot_layouts.proofs.Runs.{plain_glyphs}
use Rattle.ot_layouts.proofs.CoverageGlyphs.{cover_sorted, sorted_under, Sorted}
use Rattle.ot_layouts.proofs.BytesWritten.{bytes_coverage}
use Rattle.ot_layouts.proofs.Octets.{bytes_be16, bytes_u16}
use Rattle.store_rules.specs.Store.{Store, bytes_of, linked_at, linked_bytes}
use Rattle.store_rules.proofs.Bytes.{object_bytes_lem}
use Rattle.store_rules.proofs.Changed.{other_octets}
use Rattle.store_rules.proofs.AppendedFits.{appended_bytes}
use Rattle.cut_rules.specs.Ranges.{from, to}
use Rattle.cut_rules.proofs.CutPlaces.{range_high}
use Rattle.mark_rules.specs.Table.{Mark, classes_of, marks_in, bases_in, glyphs_of, mark_array, base_array, marks_of, mark_at, marks_within, in_classes, cut_places}
use Rattle.mark_rules.specs.Written.{no_mark, new_table, new_coverage, new_mark_array, new_base_array, new_parts, new_objects, new_of, new_links, kept_table, split_store}
use Rattle.mark_rules.proofs.Marks.{marks_rise, within_rises, marks_many}
use Rattle.mark_rules.proofs.NewArrays.{record_of}
use Rattle.mark_rules.proofs.NewCounts.{objects_of}
use Rattle.promise_calls.specs.Unchanged.{Octets}
use Rattle.promise_marks.specs.Demands.{StaysOctets}
use Rattle.promise_marks.proofs.Ready.{Ready, first_cut, splits_ready, store_written}
use Rattle.promise_marks.proofs.NewBytes.{counted, room, count_inside}

-- ---- words

bytes_words : (vs : List ℕ) → Each (λ v. v < 65536) vs → Bytes (words vs)
unfolding words
bytes_words [] a = bytes_none
bytes_words (v ∷ vs) a = bytes_append (be16 v) (words vs) (bytes_be16 v a.0) (bytes_words vs a.1)

-- a glyph and a class of a mark that fit
abbrev Small : Mark → Type 0
Small m = (m.glyph < 65536) × (m.class < 65536)

records_small : (lo : ℕ) (ms : List Mark) → Each Small ms → Each (λ v. v < 65536) (flat (record_of lo ms) (length ms))
records_small lo ms a =
    each_flat (λ v. v < 65536) (record_of lo ms) (length ms)
    (λ k l. let (x, y) = each_at Small ms a k l no_mark in (omega arith, (omega arith, tt)))

glyphs_under : (ms : List Mark) → Each Small ms → Under 65536 (plain (map (λ m. m.glyph) ms))
glyphs_under [] a = tt
glyphs_under (m ∷ ms) a = (a.0.0, glyphs_under ms a.1)

under_at : (gs : List ℕ) (n i : ℕ) → Under n (plain gs) → i < length gs → get_or gs i 0 < n
under_at [] n i a h = absurd (not-suc-le-zero h)
under_at (g ∷ gs) n zero a h = a.0
under_at (g ∷ gs) n (suc i) a h = under_at gs n i a.1 (omega arith)

-- ---- what is written

module _ (s : Store) (t : ℕ) (cs : List ℕ) (g : Ready s t cs) (octets : Octets s) where
  -- two bytes of an object
  two_small : (p i : ℕ) → u16_at (bytes_of s p) i < 65536
  two_small p i = bytes_u16 (bytes_of s p) (object_bytes_lem s octets p) i

  glyph_small : (i : ℕ) → i < length (glyphs_of s t) → get_or (glyphs_of s t) i 0 < 65536
  glyph_small i l =
      let gs = glyphs_of s t in
      let (hi, u, x) = cover_sorted (linked_bytes s t cover_at) g.parts.cover_reads in
      let sorted : Sorted 0 hi (map (λ e. e.glyph) (plain gs)) = subst (Sorted 0 hi) (sym (plain_glyphs gs)) x in
      under_at gs 65536 i (sorted_under (plain gs) 0 hi 65536 (u (two_small (linked_at s t cover_at))) sorted) l

  marks_small : Each Small (marks_of s t)
  unfolding marks_of mark_at
  marks_small =
      each_upto Small (mark_at s t) (marks_in s t) (λ k l. (glyph_small k (omega (arith, g.reads.enough)), two_small (mark_array s t) (2 + 4 * k)))

  classes_few : classes_of s t < 65536
  classes_few = two_small t class_count_at

  table_fits_lem : (lo hi : ℕ) → hi - lo < 65536 → Bytes (new_table lo hi)
  unfolding new_table
  table_fits_lem lo hi h =
      let z : 0 < 65536 = omega arith in
      bytes_words (1 ∷ 0 ∷ 0 ∷ (hi - lo) ∷ 0 ∷ 0 ∷ []) (omega arith, (z, (z, (h, (z, (z, tt))))))

  module _ (lo hi : ℕ) where
    abbrev ms : List Mark
    ms = marks_within lo hi (marks_of s t)

    small : Each Small ms
    unfolding marks_within
    small = each_sift Small Small (λ m. in_classes lo hi m.class) (λ m a e. a) (marks_of s t) marks_small

    few : length ms < 65536
    unfolding marks_within
    few = omega (arith, sift-both (λ (m : Mark). in_classes lo hi m.class) (marks_of s t), marks_many s t, two_small (mark_array s t) 0)

    cover_fits : Bytes (new_coverage ms)
    unfolding new_coverage
    cover_fits = bytes_coverage (map (λ m. m.glyph) ms) (within_rises lo hi (marks_of s t) (marks_rise s t g.reads)) (glyphs_under ms small)

    marks_fit : Bytes (new_mark_array lo ms)
    unfolding new_mark_array
    marks_fit = bytes_words (length ms ∷ flat (record_of lo ms) (length ms)) (few, records_small lo ms small)

    bases_fit : Bytes (new_base_array (bases_in s t) (hi - lo))
    unfolding new_base_array
    bases_fit =
        let slots = 2 * (bases_in s t * (hi - lo)) in
        bytes_append (be16 (bases_in s t)) (replicate slots 0) (bytes_be16 (bases_in s t) (two_small (base_array s t) 0)) (bytes_zeros slots)

    parts_fit : Each Bytes (new_parts (marks_of s t) (bases_in s t) lo hi)
    unfolding new_parts
    parts_fit = (cover_fits, (marks_fit, (bases_fit, tt)))

  objects_fit_lem : Each Bytes (new_of s t cs)
  unfolding new_objects
  objects_fit_lem =
      let n = classes_of s t in
      let tables = objects_of (marks_of s t) (bases_in s t) n cs in
      each_append Bytes (flat tables (length cs)) (new_parts (marks_of s t) (bases_in s t) 0 (from cs 0))
      (each_flat Bytes tables (length cs)
      (λ j l.
      let (x, y) = range_high n cs g.cuts j l in
      (table_fits_lem (from cs j) (to n cs j) (omega (arith, classes_few)), parts_fit (from cs j) (to n cs j))))
      (parts_fit 0 (from cs 0))

  octets_then : Bytes (split_store s t cs).bytes
  unfolding split_store kept_table be16
  octets_then =
      let low : from cs 0 < 65536 = omega (arith, first_cut s t cs g, classes_few) in
      appended_bytes (counted s t cs g) (new_of s t cs) (new_links s t cs) (room s t cs g)
      (other_octets s g.fit t class_count_at (be16 (from cs 0)) g.reads.used (count_inside s t cs g) octets (bytes_be16 (from cs 0) low)) objects_fit_lem

-- the data at exit are bytes
pub stays_octets : StaysOctets
stays_octets how s t w list octets p =
    let (g, e) = splits_ready how s t w list p in
    rw (store_written how s t w list p) (octets_then s t (cut_places how s t) g octets)
