-- `mark_order::classes_into` meets its contract: one class is written a turn. Assumes nothing.
use borrow.Author.Rules.{rules}
use Rattle.buffers.proofs.Filling.{fill_start, fill_turn, fill_stop}
use Rattle.ot_layouts.specs.MarkBasePos.{mark_class}
use Rattle.mark_order.proofs.classes_into.Goals as goal

pub loop-i-init : goal.loop-i-init
loop-i-init c = fill_start (mark_class _) _

pub loop-i-preserved : goal.loop-i-preserved
loop-i-preserved c =
    let a = c.args in
    fill_turn (mark_class a.array.now) a.classes.now c.loop-i.classes c.loop-i.i c.loop-i.invariant (search rules) c.u16_at.ensures

pub returns : goal.returns
returns c =
    let a = c.args in
    fill_stop (mark_class a.array.now) a.classes.now c.loop-i.classes c.loop-i.i c.loop-i.invariant (search rules)
