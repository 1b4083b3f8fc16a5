-- `store_walk::last_rows` meets its contract: a later row of an object takes the place of an earlier one. Assumes nothing.
use Rattle.store_walk.proofs.Ends.{Passed}
use Rattle.store_walk.proofs.last_rows.Given as goal

abbrev pub invariant-loop-k : goal.invariant-loop-k
invariant-loop-k l = Passed l.links l.m l.n l.initial.walk l.walk l.k
