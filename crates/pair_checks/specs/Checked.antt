-- What the checks 1 to 5 decide. Assumes nothing.
use Rattle.std.specs.Prelude.{ℕ, cond, not, ◌⊎◌, length, leb, ltb, eqb, Option, Some, None}
use Rattle.std.proofs.Common.{inl, inr}
use Rattle.ot_layouts.specs.Coverage.{coverage_of, cover_glyphs}
use Rattle.ot_layouts.specs.ClassDef.{class_def_of}
use Rattle.ot_pairpos.specs.declared.Layout.{Layout}
use Rattle.ot_pairpos.specs.Layout.{opened_of}
use Rattle.call_rules.specs.declared.Answer.TheVariants.{Unsound, NoTable, BadParts, FewGlyphs}
use Rattle.store_rules.specs.Store.{Store, sound, bytes_of}
use Rattle.call_rules.specs.Answers.{number}
use Rattle.glyph_parts.specs.declared.Part.{Part}
use Rattle.glyph_parts.specs.Parts.{linked_of}
use Rattle.pair_checks.specs.declared.PairTable.{PairTable}

-- a table of format 1: "fewer covered glyphs than sets" is 5
unfoldable pub sets_by : Store → Layout → Part → ℕ ⊎ PairTable
sets_by s l c =
    cond (ltb (length (cover_glyphs (bytes_of s c.object))) l.count) (inl (number FewGlyphs))
    (inr (record { layout = l; coverage = c; glyphs = length (cover_glyphs (bytes_of s c.object)); class1 = c; class2 = c }))

-- a table of format 2, by its class definitions
abbrev pub rows_by : Store → Layout → Part → Option Part → Option Part → ℕ ⊎ PairTable
rows_by s l c (Some d) (Some e) = inr (record { layout = l; coverage = c; glyphs = length (cover_glyphs (bytes_of s c.object)); class1 = d; class2 = e })
rows_by s l c (Some d) None = inl (number BadParts)
rows_by s l c None e = inl (number BadParts)

-- 4 and 5, by the coverage
abbrev pub parts_by : Store → ℕ → Layout → Option Part → ℕ ⊎ PairTable
parts_by s t l (Some c) = cond (eqb l.format 1) (sets_by s l c) (rows_by s l c (linked_of class_def_of s t 8) (linked_of class_def_of s t 10))
parts_by s t l None = inl (number BadParts)

-- 3 to 5, by what opening the table says
abbrev pub open_by : Store → ℕ → ℕ ⊎ Layout → ℕ ⊎ PairTable
open_by s t (inl n) = inl n
open_by s t (inr l) = parts_by s t l (linked_of coverage_of s t 2)

-- 1 to 5
unfoldable pub checked_of : Store → ℕ → ℕ ⊎ PairTable
checked_of s t = cond (not (sound s)) (inl (number Unsound)) (cond (leb s.object_count t) (inl (number NoTable)) (open_by s t (opened_of (bytes_of s t))))

-- document 01's number where the call has its answer; none where the table is open
abbrev pub settled_as : ℕ ⊎ PairTable → Option ℕ
settled_as (inl n) = Some n
settled_as (inr p) = None
