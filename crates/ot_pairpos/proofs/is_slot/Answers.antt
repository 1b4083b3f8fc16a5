-- `ot_pairpos::is_slot` meets its contract: by format. Assumes nothing.
use Rattle.ot_pairpos.proofs.Slots.{slot_of_one, slot_of_two}
use Rattle.ot_pairpos.proofs.is_slot.Goals as goal

pub returns-then-layout-eq1 : goal.returns-then-layout-eq1
returns-then-layout-eq1 c b e = let a = c.args in slot_of_one b a.position a.layout e c.if-layout-eq1.true (c.is_slot1.ensures b)

pub returns-else-layout-eq1 : goal.returns-else-layout-eq1
returns-else-layout-eq1 c b e = let a = c.args in slot_of_two b a.position a.layout e c.if-layout-eq1.false (c.is_slot2.ensures b)
