-- `lookup_links::enter_lookup` meets its contract: the links of the rows before k are written. Assumes nothing.
use Rattle.lookup_links.proofs.Lookup.{Entered}
use Rattle.lookup_links.proofs.enter_lookup.Given as goal

abbrev pub invariant-loop-k : goal.invariant-loop-k
invariant-loop-k l = Entered l.initial.links l.table l.tables l.parent l.at l.rows l.links l.next l.k
