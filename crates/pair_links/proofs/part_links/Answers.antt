-- `pair_links::part_links` meets its contract: the rows of the items that are cut off are found by two searches. Assumes nothing.
use native.Mathlib.Omega.{arith}
use Rattle.pair_links.proofs.Parting.{start_short, between}
use Rattle.pair_links.proofs.part_links.Goals as goal

pub overflow_cast-start : goal.overflow_cast-start
overflow_cast-start c = omega (arith, c.shared_slice_known-2-1.given 0)

pub overflow_mul-start : goal.overflow_mul-start
overflow_mul-start c = omega (arith, start_short _ _ _ _ _ c.requires)

pub overflow_add-start : goal.overflow_add-start
overflow_add-start c = omega (arith, start_short _ _ _ _ _ c.requires)

pub overflow_cast-start-2 : goal.overflow_cast-start-2
overflow_cast-start-2 c = omega (arith, start_short _ _ _ _ _ c.requires)

pub part_between-requires : goal.part_between-requires
part_between-requires c = between _ _ _ _ _ c.requires _ _ c.first_row-first.ensures c.first_row-after.ensures
