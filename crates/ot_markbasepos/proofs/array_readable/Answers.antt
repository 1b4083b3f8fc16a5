-- `ot_markbasepos::array_readable` meets its contract: by kind. Assumes nothing.
use mathlib.Core.Path.{ap, sym, ◌∙◌}
use Rattle.ot_markbasepos.specs.declared.ArrayKind.{ArrayKind}
use Rattle.ot_markbasepos.specs.Kinds.{readable_as}
use Rattle.ot_markbasepos.proofs.array_readable.Goals as goal

pub returns-in-Marks : goal.returns-in-Marks
returns-in-Marks c =
    let a = c.args in
    c.marks_readable.ensures ∙ ap (λ (k : ArrayKind). readable_as k a.classes a.array.now) (sym c.in-Marks.is)

pub returns-in-Bases : goal.returns-in-Bases
returns-in-Bases c =
    let a = c.args in
    c.bases_readable.ensures ∙ ap (λ (k : ArrayKind). readable_as k a.classes a.array.now) (sym c.in-Bases.is)
