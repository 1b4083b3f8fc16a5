-- `ot_markbasepos::marks_readable` meets its contract: the length is what the count asks for, and then the classes decide. Assumes nothing.
use mathlib.Core.Path.{ap, ◌∙◌}
use native.Mathlib.Omega.{arith}
use lib.Dec.{ltb}
use borrow.Author.Tests.{ne_eqb}
use Rattle.folds.specs.Folds.{all}
use Rattle.ot_layouts.specs.MarkBasePos.{mark_class}
use Rattle.ot_markbasepos.proofs.Readable.{marks_bad, marks_decided}
use Rattle.ot_markbasepos.proofs.marks_readable.Goals as goal

pub returns-then-array-lt2 : goal.returns-then-array-lt2
returns-then-array-lt2 c = let a = c.args in marks_bad a.classes a.array.now (λ e. omega arith)

pub returns-then-array-marks : goal.returns-then-array-marks
returns-then-array-marks c =
    let a = c.args in
    let n = c.from-marks.ensures ∙ c.u16_at.ensures in
    c.classes_below.ensures
    ∙ ap (all (λ i. ltb (mark_class a.array.now i) a.classes)) n
    ∙ marks_decided a.classes a.array.now (omega (arith, n))

pub returns-else-array-marks : goal.returns-else-array-marks
returns-else-array-marks c =
    let a = c.args in
    let n = c.from-marks.ensures ∙ c.u16_at.ensures in
    rw (ne_eqb _ _ c.if-array-marks.false) (marks_bad a.classes a.array.now (λ e. omega (arith, n)))
