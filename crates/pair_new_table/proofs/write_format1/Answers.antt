-- `pair_new_table::write_format1` meets its contract: head, count and slots stand one behind another. Assumes nothing.
use Rattle.pair_new_table.proofs.Cloning.{cloned1}
use borrow.Author.Rules.{rules}
use Rattle.pair_new_table.proofs.write_format1.Goals as goal

pub returns : goal.returns
returns c tail l inside =
    let a = c.args in
    cloned1 a.«data».now a.head a.at tail a.lo a.hi inside (search rules) (search rules) (search rules)
    c.write_head.ensures c.put_u16.ensures c.zero_bytes.ensures l
