-- The covered glyphs of a table of format 2 and their classes, in whole slices. Assumes nothing.
use Rattle.std.specs.Prelude.{Some}
use Prim.Native.Nat.{ℕ, ◌≤◌, ◌<◌}
use mathlib.Core.Path.{◌≡◌, sym, ap, ap₂, subst, ◌∙◌}
use mathlib.Core.Bool.{false}
use mathlib.Core.List.{List, map, map-map}
use native.Mathlib.Omega.{arith}
use lib.ListN.{length, get_or, length-map}
use lib.Dec.{eqb}
use Rattle.folds.specs.Lists.{put, Bytes}
use Rattle.folds.specs.Ascending.{ascending}
use Rattle.folds.proofs.Writing.{put_whole}
use Rattle.ot_layouts.specs.Coverage.{Entry, coverage_of, cover_glyphs}
use Rattle.ot_layouts.specs.ClassDef.{class_def_of, class_of}
use Rattle.ot_layouts.proofs.Entries.{ascends_plain}
use Rattle.ot_layouts.proofs.RunStarts.{entry}
use Rattle.ot_ranges.specs.Ascending.{Ascending}
use Rattle.ot_ranges.proofs.Ascending as ranges
use Rattle.ot_ranges.proofs.Ascending.{apart}
use Rattle.store_rules.specs.Store.{Store, bytes_of, linked_bytes}
use Rattle.pair_rules.specs.Table.{shape, glyphs_of, entries_of}
use Rattle.pair_rules.proofs.Checks.{entries_ascend}
use Rattle.pair_rules.proofs.Entries.{entries2, entries_glyphs}
use Rattle.store_reader.specs.Rows.{Inside}
use Rattle.glyph_sort.specs.Pairs.{pairs, keys_of, beside_of}
use Rattle.pair_checks.specs.declared.PairTable.{PairTable}
use Rattle.pair_checks.specs.Opens.{Opens}
use Rattle.pair_checks.proofs.Refusals.{format_two}
use Rattle.glyph_class_parts.specs.ClassParts.{OrderedByClass}
use Rattle.pair_row_points.proofs.Callers.{sorted}
use Rattle.pair_plan.specs.Cutting.{Gathering}
use Rattle.glyph_parts.proofs.Parts.{part-inside}
use Rattle.glyph_parts.proofs.Covered.{glyphs_ready, glyphs_written}

module _ {s : Store} {t : ℕ} {p : PairTable} {gs ks : List ℕ} (k : Gathering s t p gs ks) where
  abbrev o : Opens s t p
  o = k.opens

  two : eqb (shape s t).format 1 ≡ false
  two = format_two o k.two

  pub coverage_inside : Inside (length s.bytes) s.objects p.coverage.object
  coverage_inside = part-inside o.reads.sounds o.coverage

  pub class1_inside : Inside (length s.bytes) s.objects p.class1.object
  class1_inside = part-inside o.reads.sounds (o.class1 two)

  -- as many as there is room for
  glyphs_many : length gs ≡ length (glyphs_of s t)
  glyphs_many = k.glyphs ∙ o.glyphs

  module _ {b : List ℕ} (e : b ≡ bytes_of s p.coverage.object) where
    pub cover_ready : (coverage_of b ≡ Some p.coverage.header) × (length (cover_glyphs b) ≤ length gs)
    cover_ready = glyphs_ready o.coverage e gs glyphs_many

    module _ {gs' : List ℕ} (f : gs' ≡ put gs 0 (cover_glyphs b)) where
      written : gs' ≡ glyphs_of s t
      written = glyphs_written o.coverage e gs glyphs_many f

      glyphs_ascend : Ascending gs'
      glyphs_ascend =
          subst Ascending (entries_glyphs s t ∙ sym written)
          (ranges.ascending (map (λ e. e.glyph) (entries_of s t)) (ascends_plain (entries_of s t) 0 (entries_ascend s t o.reads)))

      pub glyphs_apart : (i j : ℕ) → i < j → j < length gs' → get_or gs' i 0 < get_or gs' j 0
      glyphs_apart = apart gs' glyphs_ascend

      as_many : length gs' ≡ length ks
      as_many = ap length written ∙ sym o.glyphs ∙ sym k.classes

      module _ {d : List ℕ} (g : d ≡ bytes_of s p.class1.object) where
        pub classes_ready : (class_def_of d ≡ Some p.class1.header) × (Ascending gs' × (length gs' ≤ length ks))
        classes_ready = (ap class_def_of g ∙ (o.class1 two).header, (glyphs_ascend, omega (arith, as_many)))

        classes_written : {ks' : List ℕ} → ks' ≡ put ks 0 (map (class_of d) gs') → ks' ≡ map (λ e. e.class) (entries_of s t)
        classes_written h =
            h
            ∙ put_whole ks (map (class_of d) gs') (length-map gs' (class_of d) ∙ as_many)
            ∙ ap₂ (λ (x y : List ℕ). map (class_of x) y) (g ∙ ap (bytes_of s) (o.class1 two).linked) written
            ∙ sym
            (ap (map (λ (e : Entry). e.class)) (entries2 s t two)
            ∙ map-map (λ (e : Entry). e.class) (λ (x : ℕ). entry x (class_of (linked_bytes s t 8) x)) (glyphs_of s t))

        pub gathered : Bytes s.bytes → {ks' ks'' gs'' : List ℕ} → ks' ≡ put ks 0 (map (class_of d) gs') → ks'' ≡ keys_of (ascending (pairs ks' gs'))
            → gs'' ≡ beside_of (ascending (pairs ks' gs')) → OrderedByClass (entries_of s t) gs'' ks''
        gathered octets h i j = sorted o.reads octets (classes_written h) (written ∙ sym (entries_glyphs s t)) i j
