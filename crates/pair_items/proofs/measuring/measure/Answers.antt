-- `measuring::measure` meets its contract: the rows up to the item's end are the item's, so that the walk adds its S. Assumes nothing.
use native.Mathlib.Omega.{arith}
use Rattle.pair_items.proofs.ItemSizes.{at_fits, at_in_order, rows_before, measured_offsets, measured}
use Rattle.pair_items.proofs.measuring.measure.Goals as goal

pub overflow_cast-count : goal.overflow_cast-count
overflow_cast-count c = omega (arith, (at_fits c.requires.by_index.5).links_most)

pub next_row-next-requires : goal.next_row-next-requires
next_row-next-requires c = (at_in_order c.requires.by_index.5, c.requires.by_index.5.first.within, rows_before c.requires.by_index.5 c.requires.by_index.4)

pub subgraph_size-size-requires : goal.subgraph_size-size-requires
subgraph_size-size-requires c =
    let by_index_5 = c.requires.by_index.5 in
    let next_is = c.next_row-next.ensures in (
      next_is.within,
      (_, record { bytes = c.requires.by_index.0; is_sound = by_index_5.is_sound; marks = by_index_5.marks; early = c.requires.epoch_bound.0 }),
      measured_offsets by_index_5 c.requires.by_index.4 c.requires.epoch_bound.1 next_is,
    )

pub returns : goal.returns
returns c b sh a i q x = measured x q c.requires.epoch_bound.1 c.next_row-next.ensures (c.subgraph_size-size.ensures b _ x.marks)
