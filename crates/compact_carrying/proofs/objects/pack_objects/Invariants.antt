-- `objects::pack_objects` meets its contract: the kept objects before i are packed, and all from i on are as they came. Assumes nothing.
use mathlib.Core.List.{[]}
use Rattle.store_rules.specs.Store.{lent}
use Rattle.compact_rules.specs.Marks.{has_mark}
use Rattle.compact_carrying.proofs.Packing.{Packing}
use Rattle.compact_carrying.proofs.objects.pack_objects.Given as goal

abbrev pub invariant-loop-i : goal.invariant-loop-i
invariant-loop-i l = Packing (lent l.initial.«data» l.initial.objects [] l.fn.counts) (has_mark l.walk) l.«data» l.objects l.at l.j l.moved l.i
