-- `pair_new_table::write_counts` meets its contract: what is copied lies below what is written. Assumes nothing.
use Rattle.pair_new_table.proofs.Cloning.{counts_written}
use Rattle.pair_new_table.proofs.write_counts.Goals as goal

pub returns : goal.returns
returns c = counts_written _ _ _ _ c.requires.head_bound c.requires.at_in_bounds c.put_u16.ensures c.put_u16-2.ensures c.put_u16-3.ensures c.copy_bytes.ensures
