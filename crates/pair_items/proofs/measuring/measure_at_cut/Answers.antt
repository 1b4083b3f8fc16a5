-- `measuring::measure_at_cut` meets its contract: only edition 2 walks the item's rows again. Assumes nothing.
use Rattle.pair_items.proofs.ItemSizes.{stays_measured, marks_here, offsets_here, measured_again}
use Rattle.pair_items.proofs.measuring.measure_at_cut.Goals as goal

pub subgraph_size-requires : goal.subgraph_size-requires
subgraph_size-requires c =
    let by_index_4 = c.requires.by_index.4 in (
      by_index_4.after.first.within,
      (
        _,
        record { bytes = c.requires.by_index.0; is_sound = by_index_4.after.is_sound; marks = by_index_4.after.marks; early = c.requires.epoch_bound },
      ),
      offsets_here by_index_4,
    )

pub returns-then-edition-eq2 : goal.returns-then-edition-eq2
returns-then-edition-eq2 c b t sh i x =
    let measured = c.args.measured in
    measured_again x c.if-edition-eq2.true measured.size (c.subgraph_size.ensures b _ (marks_here x))

pub returns : goal.returns
returns c b t sh i x = stays_measured x c.if-edition-eq2.false c.args.measured.size
