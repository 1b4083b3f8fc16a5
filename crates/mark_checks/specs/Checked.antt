-- What the checks 1 to 5 decide. Assumes nothing.
use Rattle.std.specs.Prelude.{ℕ, ◌<◌, ◌≡◌, true, false, ◌&&◌, length, Option, Some, None, Ok, Result}
use Rattle.folds.specs.Lists.{is_some}
use Rattle.ot_layouts.specs.Coverage.{coverage_of}
use Rattle.ot_layouts.specs.MarkBasePos.{format_of, table_size, cover_at, base_cover_at}
use Rattle.ot_markbasepos.specs.declared.ArrayKind.{ArrayKind}
use Rattle.ot_markbasepos.specs.Kinds.{array_at, readable_as}
use Rattle.store_rules.specs.Store.{Store, sound, bytes_of, child_at, linked_bytes}
use Rattle.call_rules.specs.Answers.{first_case, refusal}
use Rattle.glyph_parts.specs.declared.Part.{Part}
use Rattle.glyph_parts.specs.Parts.{LinkedPart}
use Rattle.call_rules.specs.declared.Answer.{Answer}
use Rattle.mark_rules.specs.Table.{classes_of}
use Rattle.mark_rules.specs.Calls.{read_cases}
use Rattle.mark_checks.specs.declared.Array.{Array}
use Rattle.mark_checks.specs.declared.MarkTable.{MarkTable}
use Rattle.mark_checks.specs.Opens.{LinkedArray, Opens}

-- the checks 1 to 3 are passed, and the table has so many classes
pub record Known (s : Store) (t classes : ℕ) : Type 0 where
  pub sounds : sound s ≡ true
  pub used : t < s.object_count
  pub known : format_of (bytes_of s t) ≡ 1
  pub exactly : length (bytes_of s t) ≡ table_size
  pub count : classes ≡ classes_of s t

-- both coverages have been read too
pub record CoveragesRead (s : Store) (t classes : ℕ) (cover base : Part) : Type 0 where
  pub known : Known s t classes
  pub coverage : LinkedPart coverage_of s t cover_at cover
  pub base_coverage : LinkedPart coverage_of s t base_cover_at base

-- an array is found exactly if it is linked and can be read
pub record FindsArray (kind : ArrayKind) (s : Store) (t classes : ℕ) (r : Option Array) : Type 0 where
  pub found : (a : Array) → r ≡ Some a → LinkedArray kind s t classes a
  pub missing : r ≡ None → (is_some (child_at s t (array_at kind)) && readable_as kind classes (linked_bytes s t (array_at kind))) ≡ false

-- the call has its answer by the first of the checks 1 to 5 that applies, or the table is open
pub record Checks (s : Store) (t : ℕ) (r : Result MarkTable Answer) : Type 0 where
  pub answers : refusal r ≡ first_case (read_cases s t)
  pub opens : (p : MarkTable) → r ≡ Ok p → Opens s t p
