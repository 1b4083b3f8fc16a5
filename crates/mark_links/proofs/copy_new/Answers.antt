-- `mark_links::copy_new` meets its contract: the links of the new tables, and then those of the kept table's arrays. Assumes nothing.
use native.Mathlib.Omega.{arith}
use Rattle.mark_links.proofs.Whole.{all_sources, tables_room, kept_many, kept_inside, kept_sources, kept_room, all_copied}
use Rattle.mark_links.proofs.copy_new.Goals as goal

pub copy_tables-at-requires : goal.copy_tables-at-requires
copy_tables-at-requires c =
    let g = c.requires in
    record {
      sources = (all_sources _ _ _ _ _ _ g c.of-rows.ensures, g.parts);
      places_len_bound = (g.few, omega (arith, g.numbers));
      part_end = c.part_end-end.ensures;
      rows_room = tables_room _ _ _ _ _ _ g;
    }

pub copy_arrays-requires : goal.copy_arrays-requires
copy_arrays-requires c =
    let g = c.requires in
    let end = c.part_end-end.ensures in
    let done = c.copy_tables-at.ensures in
    let sources = all_sources _ _ _ _ _ _ g c.of-rows.ensures in
    record {
      sources = (kept_sources _ _ _ _ _ _ g _ end done _ sources, omega (arith, g.few, kept_many _ _ _ _ _ _ g _ end done));
      lo_le_hi = (omega arith, kept_inside _ _ _ _ _ _ g _ end done, omega (arith, g.numbers));
      rows_room = kept_room _ _ _ _ _ _ g _ end done;
    }

pub returns : goal.returns
returns c = all_copied _ _ _ _ _ _ c.requires _ c.part_end-end.ensures c.copy_tables-at.ensures c.copy_arrays.ensures
