-- What a plan says of one table: its marks are ready to be written. Assumes nothing.
use Prim.Native.Nat.{ℕ, ◌+◌, ◌<◌, ◌≤◌}
use mathlib.Core.Path.{◌≡◌, subst, ap, ◌∙◌}
use mathlib.Core.List.{List, map}
use native.Mathlib.Omega.{arith}
use lib.ListN.{length, get_or}
use Rattle.folds.specs.Lists.{part}
use Rattle.folds.proofs.Folds.{before_none, before_more}
use Rattle.folds.proofs.Parts.{length_part, part_at, get_d_default}
use Rattle.ot_layouts.specs.Coverage.{Entry}
use Rattle.ot_ranges.specs.Ascending.{Ascending}
use Rattle.glyph_rules.specs.Entries.{within}
use Rattle.cut_rules.specs.Ranges.{from}
use Rattle.cut_rules.proofs.CutPlaces.{few_places}
use Rattle.cut_parts.specs.Tables.{paired, high_at, PartEnd, Halved}
use Rattle.cut_parts.proofs.Parting.{paired_glyphs, halved_none}
use Rattle.cut_parts.proofs.TableParts.{same_part, first_high, kept_entries, new_rises, new_entries, new_same}
use Rattle.mark_rules.specs.Written.{new_parts}
use Rattle.mark_new_table.specs.Arrays.{Classes}
use Rattle.mark_new_objects.specs.Marks.{marks_from}
use Rattle.mark_new_objects.specs.Planned.{RangeMarks, PlannedParts}
use Rattle.mark_new_objects.specs.Objects.{parts_of}
use Rattle.mark_new_objects.proofs.Marks.{parts_paired}

abbrev glyphs_in : List Entry → List ℕ
glyphs_in es = map (λ (e : Entry). e.glyph) es

-- the classes of a part that starts where the classes reach lo
part-classes : (ks : List ℕ) (lo hi a b : ℕ) → length ks < 65536 → lo ≤ hi → Halved ks lo a → a ≤ b → b ≤ length ks → Classes (part ks a b) lo hi
part-classes ks lo hi a b few rises v h m =
    let n = length_part ks a b h m in
    record {
      few = omega arith;
      above = λ i l. omega (arith, v.high (a + i) (omega arith) (omega arith), part_at ks a b i (omega arith));
      rises = rises;
    }

module _ (gs ks cs : List ℕ) (n : ℕ) (p : PlannedParts gs ks cs n) where
  pub cuts_few : length cs < 65536
  cuts_few = omega (arith, few_places n cs p.parts.places, p.count)

  few_classes : length ks < 65536
  few_classes = omega (arith, p.parts.same, p.few)

  -- the kept table
  module _ (a : ℕ) (e : PartEnd ks 0 (from cs 0) a) where
    pub kept_same : length (part ks 0 a) ≡ length (part gs 0 a)
    kept_same = same_part gs ks cs n p.parts 0 a (omega arith) e.inside

    pub kept_parts_lem : (bases : ℕ) → new_parts (marks_from gs ks) bases 0 (from cs 0) ≡ parts_of (part gs 0 a) (part ks 0 a) bases 0 (from cs 0)
    kept_parts_lem bases = parts_paired gs ks (part gs 0 a) (part ks 0 a) bases 0 (from cs 0) kept_same (kept_entries gs ks cs n p.parts a e)

    pub kept_marked : RangeMarks (part gs 0 a) (part ks 0 a) 0 (from cs 0)
    kept_marked =
        record {
          ascending =
              subst (λ (x : List ℕ). Ascending x) (ap glyphs_in (kept_entries gs ks cs n p.parts a e) ∙ paired_glyphs (part gs 0 a) (part ks 0 a) kept_same)
              (subst (λ (h : ℕ). Ascending (glyphs_in (within 0 h (paired gs ks)))) (first_high gs ks cs n p.parts)
              (subst (λ (lo : ℕ). Ascending (glyphs_in (within lo (high_at n cs 0) (paired gs ks)))) (before_none (from cs)) (p.ascending 0 (omega arith))));
          classes = part-classes ks 0 (from cs 0) 0 a few_classes (omega arith) (halved_none ks) (omega arith) e.inside;
        }

  -- new table j, whose part starts at a
  module _ (j a r : ℕ) (h : j < length cs) (v : Halved ks (high_at n cs j) a) (e : PartEnd ks a (get_or cs (j + 1) n) r) where
    same : length (part ks a r) ≡ length (part gs a r)
    same = new_same gs ks cs n p.parts j a r h v e

    these : within (from cs j) (get_or cs (j + 1) n) (paired gs ks) ≡ paired (part gs a r) (part ks a r)
    these = new_entries gs ks cs n p.parts j a r h v e

    pub table_parts : (bases : ℕ)
        → new_parts (marks_from gs ks) bases (from cs j) (get_or cs (j + 1) n) ≡ parts_of (part gs a r) (part ks a r) bases (from cs j) (get_or cs (j + 1) n)
    table_parts bases = parts_paired gs ks (part gs a r) (part ks a r) bases (from cs j) (get_or cs (j + 1) n) same these

    pub table_marked : RangeMarks (part gs a r) (part ks a r) (from cs j) (get_or cs (j + 1) n)
    table_marked =
        record {
          ascending =
              subst (λ (x : List ℕ). Ascending x) (ap glyphs_in these ∙ paired_glyphs (part gs a r) (part ks a r) same)
              (subst (λ (lo : ℕ). Ascending (glyphs_in (within lo (get_or cs (j + 1) n) (paired gs ks)))) (before_more (from cs) j)
              (p.ascending (j + 1) (omega arith)));
          classes =
              part-classes ks (from cs j) (get_or cs (j + 1) n) a r few_classes (omega (arith, new_rises gs ks cs n p.parts j a r h v e))
              (subst (λ (x : ℕ). Halved ks x a) (get_d_default cs j n 0 h) v) e.after e.inside;
        }
