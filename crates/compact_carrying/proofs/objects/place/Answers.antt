-- `objects::place` meets its contract: the row is written, and the bytes are copied where they are not there already. Assumes nothing.
use Rattle.compact_carrying.proofs.Placing.{placed_still, placed_moved}
use Rattle.compact_carrying.proofs.objects.place.Goals as goal

pub returns-then-head-at : goal.returns-then-head-at
returns-then-head-at c = placed_still c.args.«data».now c.args.objects.now c.args.i c.args.j c.args.at c.requires c.put_object.ensures c.if-head-at.true

pub returns : goal.returns
returns c =
    placed_moved c.args.«data».now c.args.objects.now c.args.i c.args.j c.args.at c.requires c.put_object.ensures
    c.if-head-at.false c.copy_bytes.ensures
