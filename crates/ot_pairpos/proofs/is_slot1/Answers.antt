-- `ot_pairpos::is_slot1` meets its contract: at the coverage, or at an even distance from the header. Assumes nothing.
use borrow.Author.Tests.{lt-leb, eq-eqb}
use Rattle.ot_pairpos.proofs.Slots.{slot1_head, slot1_low, slot1_item}
use Rattle.ot_pairpos.proofs.is_slot1.Goals as goal

pub returns-then-position-eq2 : goal.returns-then-position-eq2
returns-then-position-eq2 c b = rw (eq-eqb _ _ c.if-position-eq2.true) (slot1_head b c.args.position c.if-position-eq2.true)

pub returns-then-position-ge10 : goal.returns-then-position-ge10
returns-then-position-ge10 c b = slot1_item b c.args.position c.if-position-eq2.false c.if-position-ge10.true

pub returns-else-position-ge10 : goal.returns-else-position-ge10
returns-else-position-ge10 c b = rw (lt-leb _ _ c.if-position-ge10.false) (slot1_low b c.args.position c.if-position-eq2.false c.if-position-ge10.false)
