-- `ot_pairpos::is_device_slot` meets its contract: an offset is even, and falls in one record or the other. Assumes nothing.
use mathlib.Core.Path.{◌∙◌, ap}
use Prim.Native.Nat.{ℕ, ◌-◌, ◌/◌}
use native.Mathlib.Omega.{arith}
use Rattle.folds.specs.Lists.{among}
use Rattle.ot_layouts.specs.Values.{devices}
use Rattle.ot_pairpos.proofs.Slots.{odd_slot, first_slot, second_slot}
use Rattle.ot_pairpos.proofs.is_device_slot.Goals as goal

pub returns-then-offset-eq1 : goal.returns-then-offset-eq1
returns-then-offset-eq1 c = let a = c.args in odd_slot a.value1 a.value2 a.offset c.if-offset-eq1.true

pub returns-then-k-first : goal.returns-then-k-first
returns-then-k-first c =
    let a = c.args in
    c.is_device.ensures ∙ first_slot a.value1 a.value2 a.offset c.if-offset-eq1.false (omega (arith, c.field_count-first.ensures))

pub returns-else-k-first : goal.returns-else-k-first
returns-else-k-first c =
    let a = c.args in
    c.is_device-else-k-first.ensures
    ∙ ap (λ (n : ℕ). among (a.offset / 2 - n) (devices a.value2)) c.field_count-first.ensures
    ∙ second_slot a.value1 a.value2 a.offset c.if-offset-eq1.false (omega (arith, c.field_count-first.ensures))
