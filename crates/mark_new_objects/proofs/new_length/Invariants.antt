-- `mark_new_objects::new_length` meets its contract: the kept table's parts and the objects of the first i new tables are summed. Assumes nothing.
use Rattle.mark_new_objects.proofs.Lengths.{Total}
use Rattle.mark_new_objects.proofs.new_length.Given as goal

abbrev pub invariant-loop-i : goal.invariant-loop-i
invariant-loop-i l = Total l.glyphs l.classes l.cuts l.class_count l.bases l.at l.total l.i
