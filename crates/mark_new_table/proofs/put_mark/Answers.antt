-- `mark_new_table::put_mark` meets its contract: two numbers stand one behind the other. Assumes nothing.
use Rattle.mark_new_table.proofs.Bytes.{mark_written_lem}
use borrow.Author.Rules.{rules}
use Rattle.mark_new_table.proofs.put_mark.Goals as goal

pub returns : goal.returns
returns c = mark_written_lem _ _ _ (search rules) c.put_u16.ensures c.put_u16-2.ensures
