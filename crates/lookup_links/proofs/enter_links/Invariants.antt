-- `lookup_links::enter_links` meets its contract: the links of the new lookups before m are written. Assumes nothing.
use Rattle.lookup_links.proofs.Entering.{AllEntered}
use Rattle.lookup_links.proofs.enter_links.Given as goal

abbrev pub invariant-loop-m : goal.invariant-loop-m
invariant-loop-m l = AllEntered l.initial.links l.counts l.table l.tables l.lookups l.first l.links l.next l.m
