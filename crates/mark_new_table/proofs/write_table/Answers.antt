-- `mark_new_table::write_table` meets its contract: its six numbers stand one behind another. Assumes nothing.
use Rattle.mark_new_table.proofs.Bytes.{table_written}
use borrow.Author.Rules.{rules}
use Rattle.mark_new_table.proofs.write_table.Goals as goal

pub returns : goal.returns
returns c =
    table_written _ _ _ _ (search rules) c.put_u16.ensures c.zero_bytes.ensures
    c.put_u16-2.ensures c.zero_bytes-2.ensures
