-- A table that the checks of a reading have opened. Assumes nothing.
use Rattle.std.specs.Prelude.{ℕ, ◌≡◌, true, length, Some}
use Rattle.ot_layouts.specs.Numbers.{u16_at}
use Rattle.ot_layouts.specs.Coverage.{coverage_of}
use Rattle.ot_layouts.specs.MarkBasePos.{cover_at, base_cover_at}
use Rattle.ot_markbasepos.specs.declared.ArrayKind.{ArrayKind}
use Rattle.ot_markbasepos.specs.declared.ArrayKind.TheVariants.{Marks, Bases}
use Rattle.ot_markbasepos.specs.Kinds.{array_at, readable_as}
use Rattle.store_rules.specs.Store.{Store, bytes_of, child_at, linked_at}
use Rattle.glyph_parts.specs.Parts.{LinkedPart}
use Rattle.mark_rules.specs.Table.{classes_of, glyphs_of}
use Rattle.mark_rules.specs.Reads.{Reads}
use Rattle.mark_checks.specs.declared.Array.{Array}
use Rattle.mark_checks.specs.declared.MarkTable.{MarkTable}

-- the array is the object that is linked, it can be read in a table of so many classes, and this is its count
pub record LinkedArray (kind : ArrayKind) (s : Store) (t classes : ℕ) (a : Array) : Type 0 where
  pub child : child_at s t (array_at kind) ≡ Some a.object
  pub linked : a.object ≡ linked_at s t (array_at kind)
  pub readable : readable_as kind classes (bytes_of s a.object) ≡ true
  pub count : a.count ≡ u16_at (bytes_of s a.object) 0

-- the checks of a reading are passed, and what was read is the table's own
pub record Opens (s : Store) (t : ℕ) (p : MarkTable) : Type 0 where
  pub reads : Reads s t
  pub classes : p.classes ≡ classes_of s t
  pub coverage : LinkedPart coverage_of s t cover_at p.coverage
  pub glyphs : p.glyphs ≡ length (glyphs_of s t)
  pub base_coverage : LinkedPart coverage_of s t base_cover_at p.base_coverage
  pub marks : LinkedArray Marks s t p.classes p.marks
  pub bases : LinkedArray Bases s t p.classes p.bases
