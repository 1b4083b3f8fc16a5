-- `store_reader::all_offsets` meets its contract: the rows before `row` stand at slots. Assumes nothing.
use Prim.Native.Nat.{◌+◌, ◌*◌}
use mathlib.Core.Logic.{⊎_elim}
use mathlib.Core.Path.{◌≡◌, sym, ◌∙◌}
use native.Mathlib.Omega.{arith}
use Rattle.folds.proofs.Tests.{either}
use Rattle.store_rules.specs.Store.{per_link, row_position}
use Rattle.store_rules.proofs.Sound.{sound_fits}
use Rattle.store_reader.proofs.AtSlots.{offsets_pass, offset_fails}
use Rattle.store_reader.proofs.all_offsets.Goals as goal

pub returns-then-not-is_slot : goal.returns-then-not-is_slot
returns-then-not-is_slot g c = λ b o slot sounds tells.
    offset_fails _ _ slot c.rows_of-rows.ensures (sound_fits _ sounds) c.loop-row.row (omega arith) c.loop-row-test.true
    (sym (tells _ _ (omega (arith, c.type_inv.links (per_link * c.loop-row.row + row_position))) c.is_slot.ensures) ∙ c.if-not-is_slot.true)

pub loop-row-preserved : goal.loop-row-preserved
loop-row-preserved g c = λ slot tells k a h.
    ⊎_elim (λ d. c.loop-row.invariant slot tells k a d)
    (λ d.
    let e : k ≡ c.loop-row.row = omega arith in
    rw e (sym (tells _ _ (omega (arith, c.type_inv.links (per_link * c.loop-row.row + row_position))) c.is_slot.ensures) ∙ c.if-not-is_slot.false))
    (either k c.loop-row.row)

pub returns : goal.returns
returns g c = λ b o slot sounds tells.
    offsets_pass _ _ slot c.rows_of-rows.ensures (sound_fits _ sounds) (λ k a h. c.loop-row.invariant slot tells k a (omega arith))
