-- `lookup_links::put_tables` meets its contract: the links to the tables before j are written. Assumes nothing.
use Rattle.lookup_links.proofs.Rows.{tables_start, tables_turn, tables_stop}
use Rattle.lookup_links.proofs.put_tables.Goals as goal

pub loop-j-init : goal.loop-j-init
loop-j-init c = tables_start _ _ _ _ _ c.requires.tables_in_bounds

pub loop-j-preserved : goal.loop-j-preserved
loop-j-preserved c = tables_turn _ _ _ _ _ _ _ c.loop-j.invariant c.loop-j-test.true c.put_link.ensures

pub returns : goal.returns
returns c = tables_stop _ _ _ _ _ _ _ c.loop-j.invariant c.loop-j-test.false
