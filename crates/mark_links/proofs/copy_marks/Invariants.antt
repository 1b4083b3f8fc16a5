-- `mark_links::copy_marks` meets its contract: the slots of the marks before k are copied. Assumes nothing.
use lib.ListN.{length}
use Rattle.store_link_rows.proofs.Copying.{Turns}
use Rattle.mark_links.proofs.Slots.{mark_turn}
use Rattle.mark_links.proofs.copy_marks.Given as goal

abbrev pub invariant-loop-k : goal.invariant-loop-k
invariant-loop-k l = Turns l.initial.links l.counts l.at (mark_turn l.array.object l.places l.parent) (length l.places) l.links l.next l.k
