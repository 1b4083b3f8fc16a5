-- `cut_parts::order_parts` meets its contract: the parts of the first k tables are in order. Assumes nothing.
use Rattle.cut_parts.proofs.Ordering.{Ordering}
use Rattle.cut_parts.proofs.order_parts.Given as goal

abbrev pub invariant-loop-cut : goal.invariant-loop-cut
invariant-loop-cut l = Ordering l.initial.glyphs l.initial.classes l.cuts l.count l.glyphs l.classes l.at l.cut-index
