-- `pair_new_objects::write_tables` meets its contract: the objects of the first j new tables are written. Assumes nothing.
use Rattle.pair_new_objects.proofs.Looping.{Tables}
use Rattle.pair_new_objects.proofs.write_tables.Given as goal

abbrev pub invariant-loop-j : goal.invariant-loop-j
invariant-loop-j l =
    Tables l.initial.«data» l.initial.objects l.glyphs l.classes l.cuts l.layout l.head l.byte_count l.object_count l.«data» l.objects l.from l.at l.row l.j
