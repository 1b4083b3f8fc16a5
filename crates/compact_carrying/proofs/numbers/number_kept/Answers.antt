-- `numbers::number_kept` meets its contract: the numbers of the objects passed stand behind the marks. Assumes nothing.
use native.Mathlib.Omega.{arith}
use lib.ListN.{length-set}
use borrow.Author.Tests.{lt-ltb, le-ltb}
use Rattle.compact_carrying.proofs.Numbering.{numbering_start, numbering_kept, numbering_dropped, numbering_stop}
use Rattle.compact_carrying.proofs.numbers.number_kept.Goals as goal
use Rattle.compact_carrying.proofs.numbers.number_kept.Goals.{then-walk-i-gt0, else-walk-i-gt0}

pub loop-i-init : goal.loop-i-init
loop-i-init c = numbering_start _ _ c.requires.0

pub bounds-walk-n : goal.bounds-walk-n
bounds-walk-n c = omega (arith, c.requires.0, c.loop-i.invariant.writing.long)

pub bounds-walk-i : goal.bounds-walk-i
bounds-walk-i c = simp length-set (omega (arith, c.requires.0, c.loop-i.invariant.writing.long))

pub overflow_add-next : goal.overflow_add-next
overflow_add-next c = omega (arith, c.loop-i.invariant.low, c.requires.1)

pub loop-i-preserved : goal.loop-i-preserved
loop-i-preserved c =
    elim c.if-walk-i-gt0.branch [
      | then-walk-i-gt0 w ↦ rw w.next-is (numbering_kept _ _ c.requires.0 _ _ _ c.loop-i.invariant c.loop-i-test.true (lt-ltb _ _ w.if-walk-i-gt0.true))
      | else-walk-i-gt0 w ↦ rw w.next-is (numbering_dropped _ _ c.requires.0 _ _ _ c.loop-i.invariant c.loop-i-test.true (le-ltb _ _ w.if-walk-i-gt0.false))
    ]

pub shape_of-walk : goal.shape_of-walk
shape_of-walk c = c.loop-i.invariant.writing.long

pub returns : goal.returns
returns c = numbering_stop _ _ c.requires.0 _ _ _ c.loop-i.invariant c.loop-i-test.false
