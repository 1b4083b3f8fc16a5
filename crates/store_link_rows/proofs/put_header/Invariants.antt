-- `store_link_rows::put_header` meets its contract: the rows of the first i positions are written. Assumes nothing.
use Rattle.store_link_rows.proofs.Header.{Headed}
use Rattle.store_link_rows.proofs.put_header.Given as goal

abbrev pub invariant-loop-i : goal.invariant-loop-i
invariant-loop-i l = Headed l.initial.links l.k l.own l.heads l.table l.shared l.links l.i
