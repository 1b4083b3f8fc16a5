-- `store_link_rows::put_header` meets its contract: the rows of the first i positions are written. Assumes nothing.
use Rattle.store_link_rows.proofs.Header.{headed_start, headed_turn, headed_done}
use Rattle.store_link_rows.proofs.put_header.Goals as goal

pub loop-i-init : goal.loop-i-init
loop-i-init c = headed_start _ _ _ _ _ _ c.requires.heads_in_bounds

pub loop-i-preserved : goal.loop-i-preserved
loop-i-preserved c =
    headed_turn _ _ _ _ _ _ _ _ c.loop-i.invariant c.loop-i-test.true _ c.put_link.auto.links _ c.own_child-child.ensures
    c.put_link.ensures

pub returns : goal.returns
returns c = headed_done _ _ _ _ _ _ _ _ c.loop-i.invariant c.loop-i-test.false
