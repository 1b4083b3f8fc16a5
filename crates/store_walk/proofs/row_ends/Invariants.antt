-- `store_walk::row_ends` meets its contract: an object's rows end behind its last one, or where they start. Assumes nothing.
use lib.ListN.{get_or}
use Rattle.store_walk.proofs.Ends.{Ended}
use Rattle.store_walk.proofs.row_ends.Given as goal

abbrev pub invariant-loop-i : goal.invariant-loop-i
invariant-loop-i l = Ended l.links (get_or l.fn.counts 2 0) l.n l.initial.walk l.walk l.end l.i
