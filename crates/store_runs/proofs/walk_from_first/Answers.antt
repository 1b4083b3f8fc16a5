-- `store_runs::walk_from_first` may walk: the store is sound, and the scratch is prepared. Assumes nothing.
use native.Mathlib.Omega.{arith}
use Rattle.store_walk.specs.Marks.{no_row}
use Rattle.store_runs.proofs.Walking.{links_few, rows_sorted_lem, blank, ready, offsets}
use Rattle.store_runs.proofs.walk_from_first.Goals as goal

pub prepare-requires : goal.prepare-requires
prepare-requires c = blank c.requires

pub overflow_cast-count : goal.overflow_cast-count
overflow_cast-count c = omega (arith, links_few c.requires)

pub first_row-first-requires : goal.first_row-first-requires
first_row-first-requires c = rows_sorted_lem c.requires

pub first_row-after-requires : goal.first_row-after-requires
first_row-after-requires c = rows_sorted_lem c.requires

pub subgraph_size-reach-requires : goal.subgraph_size-reach-requires
subgraph_size-reach-requires c = (c.first_row-after.ensures.within, (no_row, ready c.requires c.prepare.ensures), offsets c.requires c.prepare.ensures c.first_row-first.ensures c.first_row-after.ensures)
