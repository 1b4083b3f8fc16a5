-- `mark_links::copy_base` meets its contract: the slots before k are copied. Assumes nothing.
use Rattle.store_link_rows.proofs.Copying.{Turns}
use Rattle.mark_links.proofs.Bases.{slot_turn}
use Rattle.mark_links.proofs.copy_base.Given as goal

abbrev pub invariant-loop-k : goal.invariant-loop-k
invariant-loop-k l = Turns l.initial.links l.counts l.at (slot_turn l.array.object l.first l.parent l.slot) l.width l.links l.reached.at l.k
