-- `pair_row_points::compute_format2_split_points` meets its contract: after each row the code stands where the cut rule does. Assumes nothing.
use Rattle.pair_row_points.proofs.ClassRows.{Going2}
use Rattle.pair_row_points.proofs.compute_format2_split_points.Given as goal

abbrev pub invariant-loop-i : goal.invariant-loop-i
invariant-loop-i l =
    Going2 l.settings l.objects l.links l.counts l.info l.glyphs l.classes l.initial.walk l.initial.set l.initial.cuts l.i l.rows l.walk l.set l.cuts
