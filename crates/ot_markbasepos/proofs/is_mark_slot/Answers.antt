-- `ot_markbasepos::is_mark_slot` meets its contract: a multiple of four, and behind a class. Assumes nothing.
use borrow.Author.Tests.{le-leb, lt-leb}
use Rattle.ot_layouts.specs.MarkBasePos.{is_mark_slot}
use Rattle.ot_markbasepos.proofs.is_mark_slot.Goals as goal

pub returns-then-position-ge4 : goal.returns-then-position-ge4
unfolding is_mark_slot
returns-then-position-ge4 c = rw (le-leb _ _ c.if-position-ge4.true)

pub returns-else-position-ge4 : goal.returns-else-position-ge4
unfolding is_mark_slot
returns-else-position-ge4 c = rw (lt-leb _ _ c.if-position-ge4.false)
