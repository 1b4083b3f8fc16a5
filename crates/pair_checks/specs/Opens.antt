-- A table that the checks of a reading have opened. Assumes nothing.
use Rattle.std.specs.Prelude.{ℕ, ◌≤◌, ◌≡◌, true, false, length, eqb}
use Rattle.ot_layouts.specs.Coverage.{coverage_of}
use Rattle.ot_layouts.specs.ClassDef.{class_def_of}
use Rattle.ot_pairpos.specs.Layout.{layout_of}
use Rattle.store_rules.specs.Store.{Store, bytes_of}
use Rattle.pair_rules.specs.Table.{shape, glyphs_of}
use Rattle.pair_rules.specs.Reads.{Reads}
use Rattle.pair_checks.specs.declared.PairTable.{PairTable}
use Rattle.glyph_parts.specs.Parts.{LinkedPart}

-- the checks of a reading are passed, and the parts that were read are the table's own
pub record Opens (s : Store) (t : ℕ) (p : PairTable) : Type 0 where
  pub reads : Reads s t
  pub layout : p.layout ≡ layout_of (bytes_of s t)
  pub coverage : LinkedPart coverage_of s t 2 p.coverage
  pub glyphs : p.glyphs ≡ length (glyphs_of s t)
  pub class1 : eqb (shape s t).format 1 ≡ false → LinkedPart class_def_of s t 8 p.class1
  pub class2 : eqb (shape s t).format 1 ≡ false → LinkedPart class_def_of s t 10 p.class2
  pub enough : eqb (shape s t).format 1 ≡ true → (shape s t).count ≤ length (glyphs_of s t)
