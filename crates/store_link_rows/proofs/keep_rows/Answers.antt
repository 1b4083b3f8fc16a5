-- `store_link_rows::keep_rows` meets its contract: the rows before k are done. Assumes nothing.
use Rattle.store_link_rows.proofs.Changing.{changed_start, changed_turn, changed_done}
use Rattle.store_link_rows.proofs.keep_rows.Goals as goal

pub loop-k-init : goal.loop-k-init
loop-k-init c = changed_start _ _ _ c.requires.0

pub loop-k-preserved : goal.loop-k-preserved
loop-k-preserved c = changed_turn _ _ _ _ _ c.loop-k.invariant _ c.loop-k-test.true c.keep_row.auto.links c.keep_row.ensures

pub returns : goal.returns
returns c = changed_done _ _ _ _ _ c.loop-k.invariant c.loop-k-test.false
