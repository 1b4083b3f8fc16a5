-- `mark_links::copy_tables` meets its contract: the links of the tables before j are written. Assumes nothing.
use native.Mathlib.Omega.{arith}
use Rattle.mark_links.specs.Splitting.{tables_copies}
use Rattle.store_link_rows.proofs.Copying.{turns_stop}
use Rattle.mark_links.proofs.NewTables.{tables_start, turn_sources, turn_many, turn_range, turn_room, tables_turn}
use Rattle.mark_links.proofs.copy_tables.Goals as goal

pub loop-j-init : goal.loop-j-init
unfolding tables_copies
loop-j-init c = tables_start _ _ _ _ _ _ _ _ c.requires.sources.1 _ c.requires.part_end c.requires.rows_room

pub copy_table-next-requires : goal.copy_table-next-requires
copy_table-next-requires c =
    let (sources, parted) = c.requires.sources in
    let inv = c.loop-j.invariant in
    let more = c.loop-j-test.true in
    let high = c.cut_after-hi.ensures in
    let end = c.part_end-to.ensures in
    let range = turn_range _ _ _ _ _ _ _ _ parted inv more _ _ high end in
    let many = turn_many _ _ _ _ _ _ _ _ parted inv more _ _ high end in
    record {
      sources = (turn_sources _ _ _ _ _ _ _ _ parted inv more _ sources, omega (arith, many, c.requires.places_len_bound.0));
      lo_le_hi = (range.0, range.1, omega (arith, inv.table_is, more, c.requires.places_len_bound.1));
      rows_room = turn_room _ _ _ _ _ _ _ _ parted inv more _ _ high end;
    }

pub loop-j-preserved : goal.loop-j-preserved
loop-j-preserved c =
    tables_turn _ _ _ _ _ _ _ _ c.requires.sources.1 c.loop-j.invariant c.loop-j-test.true _ _ c.cut_after-hi.ensures
    c.part_end-to.ensures c.copy_table-next.ensures

pub returns : goal.returns
unfolding tables_copies
returns c = turns_stop _ _ _ _ _ c.loop-j.invariant.turns c.loop-j-test.false
