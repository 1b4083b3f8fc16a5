-- `lookup_links::enter_row` meets its contract: the row's copy, and the new tables where it leads to the old one. Assumes nothing.
use native.Mathlib.Omega.{arith}
use Rattle.lookup_links.proofs.Rows.{copy_room, other_copied, listing_room, listing_copied}
use Rattle.lookup_links.proofs.enter_row.Goals as goal

pub put_link-requires : goal.put_link-requires
put_link-requires c = copy_room c.requires

pub returns-then-child-table : goal.returns-then-child-table
returns-then-child-table c = other_copied c.requires c.put_link.ensures c.if-child-table.true

pub overflow_add-position-3 : goal.overflow_add-position-3
overflow_add-position-3 c = omega (arith, c.requires.small)

pub put_tables-requires : goal.put_tables-requires
put_tables-requires c =
    record { tables_in_bounds = listing_room c.requires c.put_link.ensures c.if-child-table.false; tables_bound = omega (arith, c.requires.small) }

pub returns : goal.returns
returns c = listing_copied c.requires c.put_link.ensures c.if-child-table.false c.put_tables.ensures
