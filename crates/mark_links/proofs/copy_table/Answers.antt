-- `mark_links::copy_table` meets its contract: the header's links, and then those of the arrays. Assumes nothing.
use native.Mathlib.Omega.{arith}
use Rattle.mark_links.proofs.Tables.{header_room, arrays_room, arrays_sources, table_copied}
use Rattle.mark_links.proofs.copy_table.Goals as goal

pub put_header-requires : goal.put_header-requires
put_header-requires c =
    record {
      heads_in_bounds = header_room _ _ _ _ _ _ _ _ c.requires.rows_room;
      own_nonzero = (omega arith, omega arith);
    }

pub copy_arrays-requires : goal.copy_arrays-requires
copy_arrays-requires c =
    let room = c.requires.rows_room in
    let (sources, few) = c.requires.sources in
    let (low, high, _) = c.requires.lo_le_hi in
    record {
      sources = (arrays_sources _ _ _ _ _ _ _ _ room c.put_header.ensures _ sources, few);
      lo_le_hi = (low, high, omega arith);
      rows_room = arrays_room _ _ _ _ _ _ _ _ room c.put_header.ensures;
    }

pub returns : goal.returns
returns c = table_copied _ _ _ _ _ _ _ _ c.requires.rows_room c.put_header.ensures c.copy_arrays.ensures
