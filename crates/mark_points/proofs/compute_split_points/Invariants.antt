-- `mark_points::compute_split_points` meets its contract: after each class the code stands where the cut rule does. Assumes nothing.
use Rattle.mark_points.proofs.Turns.{Going}
use Rattle.mark_points.proofs.compute_split_points.Given as goal

abbrev pub invariant-loop-class : goal.invariant-loop-class
invariant-loop-class l = Going l.settings l.objects l.links l.counts l.info l.places l.classes l.initial.walk l.initial.cuts l.class l.columns l.walk l.cuts
