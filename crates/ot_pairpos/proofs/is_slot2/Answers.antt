-- `ot_pairpos::is_slot2` meets its contract: at a link of the header, or at a device of a value record. Assumes nothing.
use mathlib.Core.Path.{sym, ap, ap₂, ◌∙◌}
use mathlib.Core.List.{List}
use Prim.Native.Nat.{ℕ, ◌-◌, ◌%◌}
use borrow.Author.Tests.{eq-eqb}
use Rattle.folds.specs.Lists.{among}
use Rattle.ot_layouts.specs.PairPos.{device_slots}
use Rattle.ot_pairpos.specs.Layout.{slots_of}
use Rattle.ot_pairpos.proofs.Slots.{slot2_head, slot2_empty, slot2_record}
use Rattle.ot_pairpos.proofs.is_slot2.Goals as goal

pub returns-then-position-lt16 : goal.returns-then-position-lt16
returns-then-position-lt16 c b u v w = c.is_head2.ensures ∙ slot2_head b c.args.position c.if-position-lt16.true

pub returns-else-unit-ne0 : goal.returns-else-unit-ne0
returns-else-unit-ne0 c b u v w = rw (eq-eqb _ _ c.if-unit-ne0.false) (slot2_empty b c.args.position c.if-position-lt16.false (sym c.if-unit-ne0.false ∙ u))

pub returns-then-unit-ne0 : goal.returns-then-unit-ne0
unfolding device_slots
returns-then-unit-ne0 c b u v w =
    let a = c.args in
    c.is_device_slot.ensures
    ∙ ap₂ (λ (o : ℕ) (s : List ℕ). among o s) (ap (λ (n : ℕ). (a.position - 16) % n) u) (ap₂ slots_of v w)
    ∙ slot2_record b a.position c.if-position-lt16.false
