-- `mark_new_table::write_mark_array` meets its contract: in the loop the first k marks stand behind the count. Assumes nothing.
use native.Mathlib.Omega.{arith}
use mathlib.Core.Path.{refl}
use Rattle.mark_new_table.proofs.Bytes.{marking_start, marking_turn, marking_stop}
use Rattle.mark_new_table.proofs.write_mark_array.Goals as goal

pub loop-k-init : goal.loop-k-init
loop-k-init c = marking_start _ _ _ _ _ c.requires.classes (omega arith)

pub loop-k-preserved : goal.loop-k-preserved
loop-k-preserved c = marking_turn c.loop-k.invariant c.loop-k-test.true c.put_mark.auto.«data» c.put_mark.ensures

pub returns : goal.returns
returns c = marking_stop c.loop-k.invariant _ c.loop-k-test.false refl (omega arith) c.put_u16.ensures
