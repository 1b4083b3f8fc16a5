-- `ot_wire::u16_at` meets its contract: two bytes make a number, the first one the higher. Assumes nothing.
use Rattle.std.proofs.Common.{arith}
use Rattle.ot_layouts.specs.Numbers.{u16_at}
use Rattle.ot_wire.proofs.u16_at.Goals as goal

pub returns : goal.returns
unfolding u16_at
returns c = omega arith
