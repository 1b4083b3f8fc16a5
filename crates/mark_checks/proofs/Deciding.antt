-- What is decided of a table, check by check. Assumes nothing.
use Rattle.std.specs.Prelude.{Some, None, Err, Ok, Option, ok_or}
use Prim.Native.Nat.{ℕ, ◌≤◌, ◌<◌}
use mathlib.Core.Path.{◌≡◌, refl, sym, ap, ◌∙◌}
use mathlib.Core.Bool.{Bool, true, false, cond, not, ◌&&◌}
use mathlib.Core.List.{List}
use native.Mathlib.Omega.{arith}
use lib.ListN.{length}
use borrow.Author.Tests.{not-true, not-false}
use Rattle.folds.specs.Lists.{is_some}
use Rattle.folds.proofs.Tests.{and_intro}
use Rattle.ot_layouts.specs.Numbers.{u16_at}
use Rattle.ot_layouts.specs.Coverage.{coverage_of, cover_glyphs}
use Rattle.ot_layouts.specs.MarkBasePos.{format_of, class_count, cover_at, base_cover_at}
use Rattle.ot_markbasepos.specs.declared.ArrayKind.{ArrayKind}
use Rattle.ot_markbasepos.specs.declared.ArrayKind.TheVariants.{Marks, Bases}
use Rattle.ot_markbasepos.specs.Kinds.{array_at, readable_as}
use Rattle.store_rules.specs.Store.{Store, sound, bytes_of, child_at, linked_at, linked_bytes}
use Rattle.store_rules.proofs.Sound.{sound_fits}
use Rattle.store_reader.specs.Rows.{Inside}
use Rattle.store_reader.proofs.Bytes.{inside}
use Rattle.call_rules.specs.declared.Answer.{Answer}
use Rattle.call_rules.specs.declared.Answer.TheVariants.{Done, Unsound, NoTable, BadTable, BadParts, FewGlyphs}
use Rattle.call_rules.specs.Answers.{number, first_case}
use Rattle.glyph_parts.specs.declared.Part.{Part}
use Rattle.glyph_parts.specs.Parts.{read_by, linked_by, linked_of, LinkedPart}
use Rattle.glyph_parts.proofs.Choices.{cover_header, part_of, coverage_choice}
use Rattle.mark_rules.specs.Table.{classes_of, glyphs_of, marks_in, parts_readable}
use Rattle.mark_rules.specs.Calls.{read_cases}
use Rattle.mark_checks.specs.declared.Array.{Array}
use Rattle.mark_checks.specs.Opens.{LinkedArray, Opens}
use Rattle.mark_rules.specs.Reads.{Reads}
use Rattle.mark_rules.proofs.Checks.{reads_no_case}
use Rattle.mark_checks.specs.declared.MarkTable.{MarkTable}
use Rattle.mark_checks.specs.Checked.{Known, CoveragesRead, FindsArray, Checks}
use Rattle.mark_checks.proofs.Answering.{unsound_first, unused_first, short_first, other_first, length-first, parts_first, few_first}
use Rattle.mark_checks.proofs.Parts.{cover_test, array_test, all-parts}

-- the call has its answer
pub settles : {s : Store} {t : ℕ} (a : Answer) → Some (number a) ≡ first_case (read_cases s t) → Checks s t (Err a)
settles a e = record { answers = e; opens = λ p x. let z : ◌≡◌ {A = ℕ} 0 1 = cc in absurd (omega arith) }

none_false : (x : Part) (b : Bool) → None ≡ cond b (Some x) None → b ≡ false
none_false x true e = let z : ◌≡◌ {A = ℕ} 0 1 = cc in absurd (omega arith)
none_false x false e = refl

some_true : (p x : Part) (b : Bool) → Some p ≡ cond b (Some x) None → b ≡ true
some_true p x true e = refl
some_true p x false e = let z : ◌≡◌ {A = ℕ} 0 1 = cc in absurd (omega arith)

-- what is not there refuses the table
pub refused : {A : Type 0} (o : Option A) {e : Answer} → Err e ≡ ok_or o BadParts → (o ≡ None) × (e ≡ BadParts)
refused None h = (refl, cc)
refused (Some x) h = let z : ◌≡◌ {A = ℕ} 0 1 = cc in absurd (omega arith)

-- ---- a coverage

module _ (s : Store) (t q : ℕ) where
  abbrev part : Part
  part = part_of cover_header s (linked_at s t q)

  pub cover_missing : {r : Option Part} → r ≡ linked_of coverage_of s t q → r ≡ None → cover_test s t q ≡ false
  cover_missing e n = none_false part (cover_test s t q) (sym n ∙ e ∙ coverage_choice s t q)

  cover_there : {p : Part} → LinkedPart coverage_of s t q p → cover_test s t q ≡ true
  unfolding linked_of
  cover_there {p} l =
      let found : linked_of coverage_of s t q ≡ Some p = ap (linked_by coverage_of s) l.child ∙ ap (read_by p.object) l.header in
      some_true p part (cover_test s t q) (sym found ∙ coverage_choice s t q)

-- ---- an array

module _ (kind : ArrayKind) (s : Store) (t : ℕ) {classes : ℕ} (e : classes ≡ classes_of s t) where
  pub array_missing : {r : Option Array} → FindsArray kind s t classes r → r ≡ None → array_test s t kind ≡ false
  array_missing f n = ap (λ (c : ℕ). is_some (child_at s t (array_at kind)) && readable_as kind c (linked_bytes s t (array_at kind))) (sym e) ∙ f.missing n

  array_there : {a : Array} → LinkedArray kind s t classes a → array_test s t kind ≡ true
  array_there l =
      and_intro (is_some (child_at s t (array_at kind))) _ (ap is_some l.child)
      (ap (λ (c : ℕ). readable_as kind c (linked_bytes s t (array_at kind))) (sym e)
      ∙ ap (λ (o : ℕ). readable_as kind classes (bytes_of s o)) (sym l.linked)
      ∙ l.readable)

-- ---- 4 and 5

pub bad_parts : {s : Store} {t classes : ℕ} → Known s t classes → parts_readable s t ≡ false → Checks s t (Err BadParts)
bad_parts {s} {t} k e = settles BadParts (parts_first s t k e)

module _ {s : Store} {t classes : ℕ} {cover base : Part} (v : CoveragesRead s t classes cover base) {marks bases : Array}
    (m : LinkedArray Marks s t classes marks) (b : LinkedArray Bases s t classes bases)
    {glyphs : ℕ} (n : glyphs ≡ length (cover_glyphs (bytes_of s cover.object))) where
  parts : parts_readable s t ≡ true
  parts =
      all-parts s t (cover_there s t cover_at v.coverage) (cover_there s t base_cover_at v.base_coverage)
      (array_there Marks s t v.known.count m) (array_there Bases s t v.known.count b)

  covered : glyphs ≡ length (glyphs_of s t)
  covered = n ∙ ap (λ (o : ℕ). length (cover_glyphs (bytes_of s o))) v.coverage.linked

  counted : marks.count ≡ marks_in s t
  counted = m.count ∙ ap (λ (o : ℕ). u16_at (bytes_of s o) 0) m.linked

  pub few_glyphs : glyphs < marks.count → Checks s t (Err FewGlyphs)
  few_glyphs h = settles FewGlyphs (few_first s t v.known parts (omega (arith, covered, counted)))

  abbrev table : MarkTable
  table = record { classes = classes; coverage = cover; glyphs = glyphs; base_coverage = base; marks = marks; bases = bases }

  pub opened : marks.count ≤ glyphs → Checks s t (Ok table)
  opened h =
      let k = v.known in
      let enough : marks_in s t ≤ length (glyphs_of s t) = omega (arith, covered, counted) in
      let reads : Reads s t = record { sounds = k.sounds; used = k.used; known = k.known; exactly = k.exactly; parts = parts; enough = enough } in
      let own : Opens s t table =
      record {
        reads = reads;
        classes = k.count;
        coverage = v.coverage;
        glyphs = covered;
        base_coverage = v.base_coverage;
        marks = m;
        bases = b;
      } in
      record { answers = sym (reads_no_case s t reads); opens = λ p x. let same : table ≡ p = cc in rw (← same) own }

-- ---- 1 to 3, by the bytes that were handed out

module _ (s : Store) (t : ℕ) {x : Bool} (e : x ≡ sound s) where
  pub is_unsound : not x ≡ true → Checks s t (Err Unsound)
  is_unsound h = settles Unsound (unsound_first s t (sym e ∙ not-true x h))

  module _ (h : not x ≡ false) where
    sounds : sound s ≡ true
    sounds = sym e ∙ not-false x h

    pub is_unused : s.object_count ≤ t → Checks s t (Err NoTable)
    is_unused u = settles NoTable (unused_first s t sounds u)

    module _ (u : t < s.object_count) where
      pub table_inside : Inside (length s.bytes) s.objects t
      table_inside = inside s (sound_fits s sounds) t u

      module _ {b : List ℕ} (f : b ≡ bytes_of s t) where
        pub is_short_lem : length b < 2 → Checks s t (Err BadTable)
        is_short_lem l = settles BadTable (short_first s t sounds u (omega (arith, ap length f)))

        module _ (l : 2 ≤ length b) {v : ℕ} (g : v ≡ format_of b) where
          format_is : v ≡ format_of (bytes_of s t)
          format_is = g ∙ ap format_of f

          pub is_other : (v ≡ 1 → ⊥) → Checks s t (Err Done)
          is_other n = settles Done (other_first s t sounds u (omega (arith, ap length f)) (λ z. n (format_is ∙ z)))

          module _ (one : v ≡ 1) where
            pub is_long : (length b ≡ 12 → ⊥) → Checks s t (Err BadTable)
            is_long n = settles BadTable (length-first s t sounds u (omega (arith, ap length f)) (sym format_is ∙ one) (λ z. n (ap length f ∙ z)))

            pub is_known : length b ≡ 12 → {classes : ℕ} → classes ≡ class_count b → Known s t classes
            is_known n c = record { sounds = sounds; used = u; known = sym format_is ∙ one; exactly = sym (ap length f) ∙ n; count = c ∙ ap class_count f }
