-- `mark_new_table::write_mark_array` meets its contract: in the loop the first k marks stand behind the count. Assumes nothing.
use Rattle.mark_new_table.proofs.Bytes.{Marking}
use Rattle.mark_new_table.proofs.write_mark_array.Given as goal

abbrev pub invariant-loop-k : goal.invariant-loop-k
invariant-loop-k l = Marking l.classes l.lo l.hi l.initial.«data» l.«data» l.first l.k
