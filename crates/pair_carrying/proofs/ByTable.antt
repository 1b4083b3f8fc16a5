-- The covered glyphs of a table put together by its cuts: in format 1 each with its place, in format 2 from an order by class. Assumes nothing.
use Rattle.std.specs.Prelude.{Some}
use Prim.Native.Nat.{ℕ, ◌≤◌, ◌<◌}
use mathlib.Core.Path.{◌≡◌, sym, ap, subst, ◌∙◌}
use mathlib.Core.List.{List, map}
use native.Mathlib.Omega.{arith}
use lib.ListN.{length, get_or}
use Rattle.folds.specs.Folds.{upto}
use Rattle.folds.specs.Lists.{put, Bytes}
use Rattle.ot_layouts.specs.Coverage.{coverage_of, cover_glyphs}
use Rattle.ot_layouts.proofs.Entries.{ascends_plain}
use Rattle.ot_ranges.specs.Ascending.{Ascending}
use Rattle.ot_ranges.proofs.Ascending.{ascending}
use Rattle.store_rules.specs.Store.{Store, bytes_of}
use Rattle.pair_rules.specs.Table.{shape, entries_of, glyphs_of}
use Rattle.pair_rules.proofs.Checks.{entries_ascend}
use Rattle.pair_rules.proofs.Entries.{entries_glyphs}
use Rattle.store_reader.specs.Rows.{Inside}
use Rattle.ot_coverage_writer.proofs.Counts.{at_most}
use Rattle.ot_pairpos.specs.declared.Layout.{Layout}
use Rattle.ot_pairpos.specs.Layout.{layout_of}
use Rattle.pair_checks.specs.declared.PairTable.{PairTable}
use Rattle.pair_checks.specs.Opens.{Opens}
use Rattle.pair_checks.proofs.Refusals.{format_one, format_two}
use Rattle.glyph_parts.proofs.Parts.{part-inside}
use Rattle.glyph_parts.proofs.Covered.{glyphs_ready, glyphs_written}
use Rattle.cut_parts.specs.Order.{Sorted, PartsOrdered, Arranged}
use Rattle.pair_new_objects.proofs.Stored.{arranged1, sorted2, arranged2}
use Rattle.pair_carrying.specs.Arranging.{Arranging}

pub same_count : {s : Store} {t : ℕ} {p : PairTable} → Opens s t p → p.layout.count ≡ (shape s t).count
unfolding layout_of
same_count o = ap (λ (x : Layout). x.count) o.layout

module _ {s : Store} {t : ℕ} {p : PairTable} {gs ks cs : List ℕ} (k : Arranging s t p gs ks cs) where
  abbrev o : Opens s t p
  o = k.opens

  -- ---- format 1

  pub coverage_inside : Inside (length s.bytes) s.objects p.coverage.object
  coverage_inside = part-inside o.reads.sounds o.coverage

  module _ {b : List ℕ} (e : b ≡ bytes_of s p.coverage.object) where
    pub cover_ready : (coverage_of b ≡ Some p.coverage.header) × (length (cover_glyphs b) ≤ length gs)
    cover_ready = glyphs_ready o.coverage e gs (k.glyphs ∙ o.glyphs)

    module _ {gs' : List ℕ} (f : gs' ≡ put gs 0 (cover_glyphs b)) where
      written : gs' ≡ glyphs_of s t
      written = glyphs_written o.coverage e gs (k.glyphs ∙ o.glyphs) f

      glyphs_ascend : Ascending gs'
      glyphs_ascend =
          subst Ascending (entries_glyphs s t ∙ sym written)
          (ascending (map (λ e. e.glyph) (entries_of s t)) (ascends_plain (entries_of s t) 0 (entries_ascend s t o.reads)))

      places_many : length ks ≡ length gs'
      places_many = k.classes ∙ o.glyphs ∙ sym (ap length written)

      pub few_places : ((i : ℕ) → get_or gs' i 0 < 65536) → length ks ≤ 65536
      few_places bits = omega (arith, places_many, at_most gs' glyphs_ascend bits)

      pub by_place : p.layout.format ≡ 1 → Bytes s.bytes → {ks' : List ℕ} → ks' ≡ upto (λ i. i) (length ks)
          → Arranged gs' ks' cs (shape s t).count (entries_of s t)
      by_place one octets h =
          subst (λ (x : List ℕ). Arranged gs' x cs (shape s t).count (entries_of s t)) (sym (h ∙ ap (upto (λ i. i)) places_many))
          (subst (λ (x : List ℕ). Arranged x (upto (λ i. i) (length x)) cs (shape s t).count (entries_of s t)) (sym written)
          (arranged1 s t o.reads octets (format_one o one) cs))

  -- ---- format 2

  module _ (two : p.layout.format ≡ 1 → ⊥) (octets : Bytes s.bytes) where
    pub by_class_lem : Sorted gs ks cs p.layout.count
    by_class_lem = subst (Sorted gs ks cs) (sym (same_count o)) (sorted2 s t o.reads octets (format_two o two) gs ks cs (k.by_class two) k.places)

    pub by_parts : {gs' ks' : List ℕ} → PartsOrdered gs ks cs p.layout.count gs' ks' → Arranged gs' ks' cs (shape s t).count (entries_of s t)
    by_parts {gs'} {ks'} h =
        arranged2 s t o.reads octets (format_two o two) gs ks cs (k.by_class two) k.places gs' ks'
        (subst (λ (n : ℕ). PartsOrdered gs ks cs n gs' ks') (same_count o) h)
