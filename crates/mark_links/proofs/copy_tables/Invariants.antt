-- `mark_links::copy_tables` meets its contract: the links of the tables before j are written. Assumes nothing.
use Rattle.mark_links.proofs.NewTables.{NewTables}
use Rattle.mark_links.proofs.copy_tables.Given as goal

abbrev pub invariant-loop-j : goal.invariant-loop-j
invariant-loop-j l = NewTables l.initial.links l.counts l.arrays l.places l.classes l.cuts l.at l.first l.links l.from l.next l.table l.j
