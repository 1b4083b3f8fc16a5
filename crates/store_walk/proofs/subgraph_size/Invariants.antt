-- `store_walk::subgraph_size` meets its contract: found are objects that had the mark or can be reached, and what an object with the mark leads to was found
-- or is still to come. The measure is the objects that have not the mark, and the rows left of the one before them. Assumes nothing.
use Prim.Native.Nat.{◌+◌, ◌-◌, ◌*◌}
use lib.ListN.{get_or}
use Rattle.folds.proofs.Tally.{count}
use Rattle.store_walk.proofs.Turns.{Inv, unread}
use Rattle.store_walk.proofs.subgraph_size.Given as goal

abbrev pub invariant-loop-row : goal.invariant-loop-row
invariant-loop-row l = Inv l.objects l.links (get_or l.counts 1 0) (get_or l.counts 2 0) l.lo l.hi l.epoch l.initial.walk l.walk l.sum l.row l.stop l.top

abbrev pub decreases-loop-row : goal.decreases-loop-row
decreases-loop-row l = count (unread l.epoch l.walk) (get_or l.counts 1 0) * (get_or l.counts 2 0 + 1) + (l.stop - l.row)
