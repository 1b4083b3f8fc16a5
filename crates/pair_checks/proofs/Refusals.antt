-- The decision keeps the order of document 01: a refusal is the first of the cases 1 to 5 that applies, and an open table meets none of them. Assumes nothing.
use Rattle.std.specs.Prelude.{Option, Some, None}
use Prim.Native.Nat.{ℕ}
use mathlib.Core.Path.{◌≡◌, refl, sym, ap, ap₂, ◌∙◌}
use mathlib.Core.Bool.{Bool, true, false, cond, not, ◌&&◌, ◌||◌}
use mathlib.Core.Logic.{◌⊎◌, inl, inr}
use lib.ListN.{length}
use lib.Dec.{leb, ltb, eqb}
use borrow.Author.Tests.{eq-eqb, ne_eqb, lt-leb, le-ltb, ltb-false}
use Rattle.folds.specs.Lists.{is_some}
use Rattle.folds.proofs.Tests.{and_both, and_intro}
use Rattle.ot_layouts.specs.Coverage.{cover_readable, coverage_of}
use Rattle.ot_layouts.specs.ClassDef.{class_readable, class_def_of}
use Rattle.ot_layouts.specs.PairPos.{format_of, item_at, exact}
use Rattle.ot_layouts.proofs.Shapes.{format_test}
use Rattle.ot_pairpos.specs.declared.Layout.{Layout}
use Rattle.ot_pairpos.specs.Layout.{layout_of, opened_of}
use Rattle.store_rules.specs.Store.{Store, sound, bytes_of, child_at, linked_at, linked_bytes}
use Rattle.call_rules.specs.declared.Answer.TheVariants.{Done, Unsound, NoTable, BadTable, BadParts, FewGlyphs}
use Rattle.call_rules.specs.Answers.{number, first_case}
use Rattle.pair_rules.specs.Table.{shape, parts_readable, glyphs_of}
use Rattle.pair_rules.specs.Calls.{read_cases}
use Rattle.pair_rules.specs.Reads.{Reads}
use Rattle.pair_rules.proofs.Checks.{no_case_reads, class_read}
use Rattle.glyph_parts.specs.declared.Part.{Part}
use Rattle.glyph_parts.specs.Parts.{linked_of, LinkedPart}
use Rattle.glyph_parts.proofs.Parts.{linked_part_lem}
use Rattle.glyph_parts.proofs.Choices.{cover_header, class_header, part_of, linked_test, coverage_choice, class_choice}
use Rattle.pair_checks.specs.Checked.{sets_by, rows_by, parts_by, open_by, checked_of, settled_as}
use Rattle.pair_checks.specs.declared.PairTable.{PairTable}
use Rattle.pair_checks.specs.Opens.{Opens}

-- ---- the cases in a row

module _ (s : Store) (t : ℕ) where
  -- format 1, by the shape
  abbrev is_one : Bool
  is_one = eqb (shape s t).format 1

  -- fewer covered glyphs than sets
  abbrev few : Bool
  few = ltb (length (glyphs_of s t)) (shape s t).count

  -- the coverage, read
  abbrev coverage : Part
  coverage = part_of cover_header s (linked_at s t 2)

  -- a table that is not refused, with these class definitions
  abbrev table : Part → Part → PairTable
  table d e = record { layout = layout_of (bytes_of s t); coverage = coverage; glyphs = length (glyphs_of s t); class1 = d; class2 = e }

  -- the class definition at q; in format 1 the coverage stands for it
  abbrev class : ℕ → Part
  class q = cond is_one coverage (part_of class_header s (linked_at s t q))

  by_coverage : (p : Bool) → parts_by s t (layout_of (bytes_of s t)) (cond p (Some coverage) None)
      ≡ cond p
      (cond is_one (cond few (inl (number FewGlyphs)) (inr (table coverage coverage)))
      (rows_by s (layout_of (bytes_of s t)) coverage (linked_of class_def_of s t 8) (linked_of class_def_of s t 10)))
      (inl (number BadParts))
  unfolding sets_by layout_of
  by_coverage true = refl
  by_coverage false = refl

  by_classes_lem : (d e : Part) (q r : Bool)
      → rows_by s (layout_of (bytes_of s t)) coverage (cond q (Some d) None) (cond r (Some e) None)
      ≡ cond (q && r) (inr (table d e)) (inl (number BadParts))
  by_classes_lem d e true true = refl
  by_classes_lem d e true false = refl
  by_classes_lem d e false true = refl
  by_classes_lem d e false false = refl

  -- the tests of the coverage, of the format, of both class definitions and of the count of glyphs, in document 01's order
  in_order_lem : (d e : Part) (p f q i r w : Bool)
      → cond p (cond f (cond w (inl (number FewGlyphs)) (inr (table coverage coverage))) (cond (q && (i && r)) (inr (table d e)) (inl (number BadParts))))
      (inl (number BadParts))
      ≡ cond (not (p && cond f true (q && i && r))) (inl (number BadParts))
      (cond (f && w) (inl (number FewGlyphs)) (inr (table (cond f coverage d) (cond f coverage e))))
  in_order_lem d e false f q i r w = refl
  in_order_lem d e true true q i r w = refl
  in_order_lem d e true false false i r w = refl
  in_order_lem d e true false true false r w = refl
  in_order_lem d e true false true true true w = refl
  in_order_lem d e true false true true false w = refl

  -- 4 and 5
  parts_choice : parts_by s t (layout_of (bytes_of s t)) (linked_of coverage_of s t 2)
      ≡ cond (not (parts_readable s t)) (inl (number BadParts))
      (cond (is_one && few) (inl (number FewGlyphs)) (inr (table (class 8) (class 10))))
  unfolding parts_readable
  parts_choice =
      ap (parts_by s t (layout_of (bytes_of s t))) (coverage_choice s t 2)
      ∙ by_coverage (linked_test cover_readable s (child_at s t 2))
      ∙ ap (λ (x : ℕ ⊎ PairTable). cond (linked_test cover_readable s (child_at s t 2))
      (cond is_one (cond few (inl (number FewGlyphs)) (inr (table coverage coverage))) x) (inl (number BadParts)))
      (ap₂ (λ (x y : Option Part). rows_by s (layout_of (bytes_of s t)) coverage x y) (class_choice s t 8) (class_choice s t 10)
      ∙ by_classes_lem (part_of class_header s (linked_at s t 8)) (part_of class_header s (linked_at s t 10))
      (linked_test class_readable s (child_at s t 8)) (linked_test class_readable s (child_at s t 10)))
      ∙ in_order_lem (part_of class_header s (linked_at s t 8)) (part_of class_header s (linked_at s t 10))
      (linked_test cover_readable s (child_at s t 2)) is_one (linked_test class_readable s (child_at s t 8))
      (is_some (child_at s t 10)) (class_readable (linked_bytes s t 10)) few

  -- 3 to 5
  opened_choice : open_by s t (opened_of (bytes_of s t))
      ≡ cond (ltb (length (bytes_of s t)) 2) (inl (number BadTable))
      (cond (not (eqb (format_of (bytes_of s t)) 1 || eqb (format_of (bytes_of s t)) 2)) (inl (number Done))
      (cond (not (exact (bytes_of s t))) (inl (number BadTable))
      (cond (not (parts_readable s t)) (inl (number BadParts))
      (cond (eqb (format_of (bytes_of s t)) 1 && few) (inl (number FewGlyphs)) (inr (table (class 8) (class 10)))))))
  unfolding opened_of
  opened_choice =
      go (ltb (length (bytes_of s t)) 2) (eqb (format_of (bytes_of s t)) 1 || eqb (format_of (bytes_of s t)) 2) (exact (bytes_of s t))
      (parts_choice ∙ ap last (format_test (bytes_of s t)))
    where
      last : Bool → ℕ ⊎ PairTable
      last f = cond (not (parts_readable s t)) (inl (number BadParts)) (cond (f && few) (inl (number FewGlyphs)) (inr (table (class 8) (class 10))))

      go : {v : ℕ ⊎ PairTable} (x y z : Bool) → parts_by s t (layout_of (bytes_of s t)) (linked_of coverage_of s t 2) ≡ v
          → open_by s t (cond x (inl 3) (cond y (cond z (inr (layout_of (bytes_of s t))) (inl 3)) (inl 0)))
          ≡ cond x (inl (number BadTable)) (cond (not y) (inl (number Done)) (cond (not z) (inl (number BadTable)) v))
      go true y z e = refl
      go false false z e = refl
      go false true false e = refl
      go false true true e = e

  -- 1 to 5
  decision : checked_of s t
      ≡ cond (not (sound s)) (inl (number Unsound))
      (cond (leb s.object_count t) (inl (number NoTable))
      (cond (ltb (length (bytes_of s t)) 2) (inl (number BadTable))
      (cond (not (eqb (format_of (bytes_of s t)) 1 || eqb (format_of (bytes_of s t)) 2)) (inl (number Done))
      (cond (not (exact (bytes_of s t))) (inl (number BadTable))
      (cond (not (parts_readable s t)) (inl (number BadParts))
      (cond (eqb (format_of (bytes_of s t)) 1 && few) (inl (number FewGlyphs)) (inr (table (class 8) (class 10)))))))))
  unfolding checked_of
  decision = ap (λ (x : ℕ ⊎ PairTable). cond (not (sound s)) (inl (number Unsound)) (cond (leb s.object_count t) (inl (number NoTable)) x)) opened_choice

-- a refusal behind a test
refused : (b : Bool) (n : ℕ) (v : ℕ ⊎ PairTable) → settled_as (cond b (inl n) v) ≡ cond b (Some n) (settled_as v)
refused true n v = refl
refused false n v = refl

-- the decision has document 01's number, and document 01's cases go by the same tests
pub refusals : (s : Store) (t : ℕ) → first_case (read_cases s t) ≡ settled_as (checked_of s t)
unfolding first_case read_cases
refusals s t = sym (ap settled_as (decision s t) ∙ simp refused)

-- ---- an open table

module _ (s : Store) (t : ℕ) (p : PairTable) (e : checked_of s t ≡ inr p) where
  reads : Reads s t
  reads = no_case_reads s t (refusals s t ∙ ap settled_as e)

  settled : checked_of s t ≡ inr (table s t (class s t 8) (class s t 10))
  unfolding exact
  settled =
      decision s t
      ∙ rw (
        reads.sounds,
        lt-leb s.object_count t reads.used,
        le-ltb (length (bytes_of s t)) 2 reads.two,
        reads.known,
        eq-eqb (length (bytes_of s t)) (item_at (shape s t) (shape s t).count) reads.exactly,
        reads.parts,
        reads.enough,
      )

  is_table : p ≡ table s t (class s t 8) (class s t 10)
  is_table = let z : ◌≡◌ {A = ℕ ⊎ PairTable} (inr p) (inr (table s t (class s t 8) (class s t 10))) = sym e ∙ settled in cc

  cover_test_lem : linked_test cover_readable s (child_at s t 2) ≡ true
  unfolding parts_readable
  cover_test_lem = (and_both (linked_test cover_readable s (child_at s t 2)) _ reads.parts).0

  class_part : (q : ℕ) (d : Part) → d ≡ class s t q → eqb (shape s t).format 1 ≡ false
      → linked_test class_readable s (child_at s t q) ≡ true → LinkedPart class_def_of s t q d
  class_part q d i f h = linked_part_lem {r = Some d} (sym (class_choice s t q ∙ rw h (ap Some (sym (i ∙ rw f))))) refl

  pub opens : Opens s t p
  opens =
      record {
        reads = reads;
        layout = ap (λ (x : PairTable). x.layout) is_table;
        coverage =
            linked_part_lem {r = Some p.coverage}
            (sym (coverage_choice s t 2 ∙ rw cover_test_lem (ap Some (sym (ap (λ (x : PairTable). x.coverage) is_table))))) refl;
        glyphs = ap (λ (x : PairTable). x.glyphs) is_table;
        class1 = λ f.
            let (a, b, c, d) = class_read s t reads.parts f in
            class_part 8 p.class1 (ap (λ (x : PairTable). x.class1) is_table) f (and_intro _ _ a b);
        class2 = λ f.
            let (a, b, c, d) = class_read s t reads.parts f in
            class_part 10 p.class2 (ap (λ (x : PairTable). x.class2) is_table) f (and_intro _ _ c d);
        enough = λ f.
            ltb-false (length (glyphs_of s t)) (shape s t).count
            (ap (λ (x : Bool). x && few s t) (sym f ∙ format_test (bytes_of s t)) ∙ reads.enough);
      }

-- the format, as the code tests it
module _ {s : Store} {t : ℕ} {p : PairTable} (o : Opens s t p) where
  same_format : p.layout.format ≡ (shape s t).format
  unfolding layout_of
  same_format = ap (λ (x : Layout). x.format) o.layout

  pub format_one : p.layout.format ≡ 1 → eqb (shape s t).format 1 ≡ true
  format_one e = eq-eqb (shape s t).format 1 (sym same_format ∙ e)

  pub format_two : (p.layout.format ≡ 1 → ⊥) → eqb (shape s t).format 1 ≡ false
  format_two n = ne_eqb (shape s t).format 1 (λ e. n (same_format ∙ e))
