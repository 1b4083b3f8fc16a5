-- `pair_sets::many_rise` meets its contract: `at` is the place of a record behind which nothing was looked at. Assumes nothing.
use Prim.Native.Nat.{◌-◌}
use lib.ListN.{length}
use Rattle.pair_sets.proofs.Windows.{Passed}
use Rattle.pair_sets.proofs.many_rise.Given as goal

abbrev pub invariant-loop-size : goal.invariant-loop-size
invariant-loop-size l = Passed l.set l.size l.count l.at

abbrev pub decreases-loop-size : goal.decreases-loop-size
decreases-loop-size l = length l.set - l.at
