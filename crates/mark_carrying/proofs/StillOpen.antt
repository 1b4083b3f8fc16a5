-- A table that is open stays so when objects are written behind those in use. Assumes nothing.
use Rattle.ot_layouts.specs.declared.Header.{Header}
use Rattle.std.specs.Prelude.{Option, unwrap_or}
use Prim.Native.Nat.{ℕ}
use mathlib.Core.Path.{◌≡◌, refl, sym, ap, ◌∙◌}
use mathlib.Core.Bool.{◌&&◌}
use mathlib.Core.List.{List}
use native.Mathlib.Omega.{arith}
use lib.ListN.{length}
use Rattle.folds.specs.Folds.{upto}
use Rattle.folds.specs.Lists.{is_some}
use Rattle.ot_layouts.specs.Numbers.{u16_at}
use Rattle.ot_layouts.specs.Coverage.{cover_readable, cover_glyphs}
use Rattle.ot_layouts.specs.MarkBasePos.{
  format_of,
  cover_at,
  base_cover_at,
  mark_array_at,
  base_array_at,
  class_count,
  mark_count,
  mark_class,
  marks_readable,
  bases_readable,
}
use Rattle.ot_layouts.proofs.RunStarts.{entry}
use Rattle.ot_markbasepos.specs.declared.ArrayKind.{ArrayKind}
use Rattle.ot_markbasepos.specs.Kinds.{array_at, readable_as}
use Rattle.store_rules.specs.Store.{Store, bytes_of, links_of, child_at, linked_at, linked_bytes}
use Rattle.store_rules.proofs.Sound.{Fits, sound_fits, fits_sound}
use Rattle.store_rules.proofs.Lookups.{child_used_lem, linked_used}
use Rattle.store_object_rows.specs.Objects.{Behind}
use Rattle.store_object_rows.proofs.Behind.{with, same_bytes, still_fits_lem}
use Rattle.glyph_parts.specs.declared.Part.{Part}
use Rattle.glyph_parts.specs.Parts.{LinkedPart}
use Rattle.mark_rules.specs.Table.{classes_of, parts_readable}
use Rattle.mark_rules.specs.Reads.{Reads}
use Rattle.mark_checks.specs.declared.Array.{Array}
use Rattle.mark_checks.specs.declared.MarkTable.{MarkTable}
use Rattle.mark_checks.specs.Opens.{LinkedArray, Opens}
use Rattle.mark_order.specs.Marks.{mark_places}

module _ {s : Store} {t : ℕ} {d o : List ℕ} (b : Behind s d o) (reads : Reads s t) where
  abbrev s' : Store
  s' = with s d o

  fits : Fits s
  fits = sound_fits s reads.sounds

  table_same : bytes_of s' t ≡ bytes_of s t
  table_same = same_bytes fits b t reads.used

  -- its links are the same, and what they lead to
  child_same : (q : ℕ) → child_at s' t q ≡ child_at s t q
  unfolding child_at links_of
  child_same q = refl

  linked_same : (q : ℕ) → linked_bytes s' t q ≡ linked_bytes s t q
  linked_same q =
      ap (λ (x : Option ℕ). bytes_of s' (unwrap_or x 0)) (child_same q)
      ∙ same_bytes fits b (linked_at s t q) (linked_used s t fits reads.used q)

  pub classes_same : classes_of s' t ≡ classes_of s t
  classes_same = ap class_count table_same

  pub places_same : mark_places s' t ≡ mark_places s t
  places_same = ap (λ (x : List ℕ). upto (λ i. entry i (mark_class x i)) (mark_count x)) (linked_same mark_array_at)

  -- ---- the checks

  parts_same : parts_readable s' t ≡ parts_readable s t
  unfolding parts_readable
  parts_same = λ i.
      (is_some (child_same cover_at i) && cover_readable (linked_same cover_at i))
      && (is_some (child_same base_cover_at i) && cover_readable (linked_same base_cover_at i))
      && (is_some (child_same mark_array_at i) && marks_readable (class_count (table_same i)) (linked_same mark_array_at i))
      && (is_some (child_same base_array_at i) && bases_readable (class_count (table_same i)) (linked_same base_array_at i))

  -- as many glyphs are covered
  covered_same : length (cover_glyphs (linked_bytes s' t cover_at)) ≡ length (cover_glyphs (linked_bytes s t cover_at))
  covered_same = ap (λ (x : List ℕ). length (cover_glyphs x)) (linked_same cover_at)

  still_reads : Reads s' t
  still_reads =
      record {
        sounds = fits_sound s' (still_fits_lem fits b);
        used = reads.used;
        known = ap format_of table_same ∙ reads.known;
        exactly = ap length table_same ∙ reads.exactly;
        parts = parts_same ∙ reads.parts;
        enough = omega (arith, reads.enough, covered_same, ap mark_count (linked_same mark_array_at));
      }

  -- ---- what was read

  object_same : (q : ℕ) → linked_at s' t q ≡ linked_at s t q
  object_same q = ap (λ (x : Option ℕ). unwrap_or x 0) (child_same q)

  part_same : {read : List ℕ → Option Header} {q : ℕ} {p : Part} → LinkedPart read s t q p → LinkedPart read s' t q p
  part_same {read} {q} {p} l =
      let used = child_used_lem s t fits q p.object l.child in
      record {
        child = child_same q ∙ l.child;
        linked = l.linked ∙ sym (object_same q);
        header = ap read (same_bytes fits b p.object used) ∙ l.header;
      }

  array_same : {kind : ArrayKind} {n : ℕ} {a : Array} → LinkedArray kind s t n a → LinkedArray kind s' t n a
  array_same {kind} {n} {a} l =
      let bytes = same_bytes fits b a.object (child_used_lem s t fits (array_at kind) a.object l.child) in
      record {
        child = child_same (array_at kind) ∙ l.child;
        linked = l.linked ∙ sym (object_same (array_at kind));
        readable = ap (readable_as kind n) bytes ∙ l.readable;
        count = l.count ∙ ap (λ (x : List ℕ). u16_at x 0) (sym bytes);
      }

  pub still_open : {p : MarkTable} → Opens s t p → Opens s' t p
  still_open opens =
      record {
        reads = still_reads;
        classes = opens.classes ∙ sym classes_same;
        coverage = part_same opens.coverage;
        glyphs = opens.glyphs ∙ sym covered_same;
        base_coverage = part_same opens.base_coverage;
        marks = array_same opens.marks;
        bases = array_same opens.bases;
      }
