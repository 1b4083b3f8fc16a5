-- `mark_order::classes_into` meets its contract: one class is written a turn. Assumes nothing.
use Rattle.buffers.proofs.Filling.{Filling}
use Rattle.ot_layouts.specs.MarkBasePos.{mark_class}
use Rattle.mark_order.proofs.classes_into.Given as goal

abbrev pub invariant-loop-i : goal.invariant-loop-i
invariant-loop-i l = Filling (mark_class l.array) l.initial.classes l.classes l.i
