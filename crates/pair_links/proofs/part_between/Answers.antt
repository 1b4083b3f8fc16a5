-- `pair_links::part_between` meets its contract: the rows that are cut off are parted, and then the rows that stay are led to the kept table's new objects.
-- Assumes nothing.
use native.Mathlib.Omega.{arith}
use Rattle.pair_links.proofs.Parting.{ready}
use Rattle.pair_links.proofs.Finishing.{parted_call}
use Rattle.pair_links.proofs.part_between.Goals as goal

pub overflow_add-first_kept : goal.overflow_add-first_kept
overflow_add-first_kept c = omega (arith, ready _ _ _ _ _ _ _ c.requires)

pub overflow_mul-first_kept : goal.overflow_mul-first_kept
overflow_mul-first_kept c = omega (arith, ready _ _ _ _ _ _ _ c.requires)

pub overflow_add-first_kept-2 : goal.overflow_add-first_kept-2
overflow_add-first_kept-2 c = omega (arith, ready _ _ _ _ _ _ _ c.requires)

pub part_rows-requires : goal.part_rows-requires
part_rows-requires c =
    let r = ready _ _ _ _ _ _ _ c.requires in
    record { fit = r.fits; a_le_b = (r.ends, r.used, r.room); positions_rise = r.order; by_index = r.bottom }

pub overflow_cast-first_kept : goal.overflow_cast-first_kept
overflow_cast-first_kept c = omega (arith, ready _ _ _ _ _ _ _ c.requires)

pub keep_table-requires : goal.keep_table-requires
keep_table-requires c = let r = ready _ _ _ _ _ _ _ c.requires in (c.requires.known.numbered, omega (arith, r), r.numbers)

pub overflow_mul-result : goal.overflow_mul-result
overflow_mul-result c = omega (arith, ready _ _ _ _ _ _ _ c.requires)

pub overflow_add-result : goal.overflow_add-result
overflow_add-result c = omega (arith, ready _ _ _ _ _ _ _ c.requires)

pub returns : goal.returns
returns c = parted_call _ c.args.counts _ _ _ _ _ _ c.requires _ _ c.part_rows.ensures c.keep_table.ensures
