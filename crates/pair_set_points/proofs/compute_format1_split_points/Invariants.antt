-- `pair_set_points::compute_format1_split_points` meets its contract: after each pair set the code stands where the cut rule does. Assumes nothing.
use Rattle.pair_set_points.proofs.PairSets.{Going1}
use Rattle.pair_set_points.proofs.compute_format1_split_points.Given as goal

abbrev pub invariant-loop-i : goal.invariant-loop-i
invariant-loop-i l = Going1 l.settings l.objects l.links l.counts l.info l.initial.walk l.initial.cuts l.i l.sets l.walk l.cuts
