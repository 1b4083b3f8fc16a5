-- `mark_links::copy_arrays` meets its contract: the marks' links, and then the bases'. Assumes nothing.
use native.Mathlib.Omega.{arith}
use Rattle.mark_links.proofs.Tables.{marks_room, bases_room, bases_source, arrays_copied}
use Rattle.mark_links.proofs.copy_arrays.Goals as goal

pub copy_marks-middle-requires : goal.copy_marks-middle-requires
copy_marks-middle-requires c =
    let (sources, few) = c.requires.sources in
    record { source = (sources.marks, few); rows_room = marks_room _ _ _ _ _ _ _ _ c.requires.rows_room }

pub copy_bases-requires : goal.copy_bases-requires
copy_bases-requires c =
    let room = c.requires.rows_room in
    let marks = c.copy_marks-middle.ensures in
    let (low, high, _) = c.requires.lo_le_hi in
    let (sources, _) = c.requires.sources in
    record {
      source = bases_source _ _ _ _ _ _ _ _ room marks _ _ sources.bases;
      lo_le_hi = (low, high, omega arith, sources.short);
      rows_room = bases_room _ _ _ _ _ _ _ _ room marks;
    }

pub returns : goal.returns
returns c = arrays_copied _ _ _ _ _ _ _ _ c.requires.rows_room c.copy_marks-middle.ensures c.copy_bases.ensures
