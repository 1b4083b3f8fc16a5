-- `lookup_links::put_tables` meets its contract: the links to the tables before j are written. Assumes nothing.
use Rattle.lookup_links.proofs.Rows.{TablesPut}
use Rattle.lookup_links.proofs.put_tables.Given as goal

abbrev pub invariant-loop-j : goal.invariant-loop-j
invariant-loop-j l = TablesPut l.initial.links l.at l.tables l.parent l.position l.links l.j
