-- `pair_new_table::write_head` meets its contract: what is copied lies below what is written. Assumes nothing.
use Rattle.pair_new_table.proofs.Cloning.{head_written}
use Rattle.pair_new_table.proofs.write_head.Goals as goal

pub returns : goal.returns
returns c = head_written _ _ _ c.requires.head_bound c.requires.at_in_bounds c.copy_bytes.ensures c.put_u16.ensures c.copy_bytes-2.ensures
