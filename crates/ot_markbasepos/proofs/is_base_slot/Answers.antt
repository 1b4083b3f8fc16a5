-- `ot_markbasepos::is_base_slot` meets its contract: even, and behind the count. Assumes nothing.
use borrow.Author.Tests.{le-leb, lt-leb}
use Rattle.ot_layouts.specs.MarkBasePos.{is_base_slot}
use Rattle.ot_markbasepos.proofs.is_base_slot.Goals as goal

pub returns-then-position-ge2 : goal.returns-then-position-ge2
unfolding is_base_slot
returns-then-position-ge2 c = rw (le-leb _ _ c.if-position-ge2.true)

pub returns-else-position-ge2 : goal.returns-else-position-ge2
unfolding is_base_slot
returns-else-position-ge2 c = rw (lt-leb _ _ c.if-position-ge2.false)
