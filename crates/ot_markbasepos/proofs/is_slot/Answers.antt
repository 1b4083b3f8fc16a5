-- `ot_markbasepos::is_slot` meets its contract: by holder. Assumes nothing.
use mathlib.Core.Path.{ap, sym, ◌∙◌}
use Rattle.ot_markbasepos.specs.declared.Holder.{Holder}
use Rattle.ot_markbasepos.specs.Kinds.{slot_of}
use Rattle.ot_markbasepos.proofs.is_slot.Goals as goal

pub returns-in-Table : goal.returns-in-Table
returns-in-Table c =
    let a = c.args in
    c.is_table_slot.ensures ∙ ap (λ (h : Holder). slot_of h a.position) (sym c.in-Table.is)

pub returns-in-Marks : goal.returns-in-Marks
returns-in-Marks c =
    let a = c.args in
    c.is_mark_slot.ensures ∙ ap (λ (h : Holder). slot_of h a.position) (sym c.in-Marks.is)

pub returns-in-Bases : goal.returns-in-Bases
returns-in-Bases c =
    let a = c.args in
    c.is_base_slot.ensures ∙ ap (λ (h : Holder). slot_of h a.position) (sym c.in-Bases.is)
