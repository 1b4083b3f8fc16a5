-- The arrays of a table that has passed the checks, and their link rows. Assumes nothing.
use Rattle.std.specs.Prelude.{ℕ, List, get_or}
use Rattle.store_reader.specs.Rows.{ParentRows}
use Rattle.mark_checks.specs.declared.MarkTable.{MarkTable}
use Rattle.mark_arrays.specs.declared.Arrays.{Arrays}
use Rattle.mark_arrays.specs.declared.ArrayRows.{ArrayRows}

-- the table's own numbers
abbrev pub arrays_of : MarkTable → Arrays
arrays_of p =
    record {
      mark_array = p.marks.object;
      base_array = p.bases.object;
      base_coverage = p.base_coverage.object;
      classes = p.classes;
      bases = p.bases.count;
    }

-- the rows of both arrays are known
pub record RowsKnown (l c : List ℕ) (a : Arrays) (rows : ArrayRows) : Type 0 where
  pub marks : ParentRows l (get_or c 2 0) a.mark_array rows.marks
  pub bases : ParentRows l (get_or c 2 0) a.base_array rows.bases
