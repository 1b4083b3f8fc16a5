-- `mark_new_table::write_base_array` meets its contract: the count, and behind it the slots. Assumes nothing.
use Rattle.mark_new_table.proofs.Bytes.{bases_written}
use borrow.Author.Rules.{rules}
use Rattle.mark_new_table.proofs.write_base_array.Goals as goal

pub returns : goal.returns
returns c = bases_written _ _ _ _ (search rules) c.put_u16.ensures c.zero_bytes.ensures
