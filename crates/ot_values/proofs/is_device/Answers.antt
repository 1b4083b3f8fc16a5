-- `ot_values::is_device` meets its contract: the device positions are those from the plain fields' end on. Assumes nothing.
use borrow.Author.Tests.{le-leb, lt-leb}
use Rattle.ot_values.proofs.Devices.{devices_between}
use Rattle.ot_values.proofs.is_device.Goals as goal

pub returns-then-position-k : goal.returns-then-position-k
returns-then-position-k c =
    let a = c.args in
    rw (devices_between a.format a.k, ← c.position.ensures, ← c.field_count.ensures, le-leb _ _ c.if-position-k.true)

pub returns-else-position-k : goal.returns-else-position-k
returns-else-position-k c =
    let a = c.args in
    rw (devices_between a.format a.k, ← c.position.ensures, lt-leb _ _ c.if-position-k.false)
