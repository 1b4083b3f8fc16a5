-- `read_coverage` meets its contract: the two first numbers say which kind is tested. Assumes nothing.
use mathlib.Core.Path.{refl, ◌∙◌}
use mathlib.Core.Bool.{true, false}
use native.Mathlib.Omega.{arith}
use Rattle.folds.proofs.Tests.{then_cond}
use Rattle.ot_layouts.proofs.CoverageRead.{too_short_lem, by_list, by_ranges, by_none}
use Rattle.ot_coverage_reader.proofs.read_coverage.Goals.{then-ranges_fit, else-ranges_fit}
use Rattle.ot_coverage_reader.proofs.read_coverage.Goals as goal

pub returns-then-part-lt4 : goal.returns-then-part-lt4
returns-then-part-lt4 c = too_short_lem _ c.if-part-lt4.true

pub returns-in-1 : goal.returns-in-1
returns-in-1 c =
    c.then_some.ensures ∙ then_cond c.list_fits.result _
    ∙ by_list _ _ _ c.u16_at-2.ensures (c.from-count.ensures ∙ c.u16_at.ensures) _ c.in-1.is c.list_fits.ensures

pub returns-after-ranges_fit : goal.returns-after-ranges_fit
returns-after-ranges_fit c =
    c.then_some-in-2.ensures ∙ then_cond c.if-ranges_fit.then_some _
    ∙ elim c.if-ranges_fit.branch [
      | then-ranges_fit w ↦ by_ranges _ _ _ c.u16_at-2.ensures (c.from-count.ensures ∙ c.u16_at.ensures) true _
          c.in-2.is w.if-ranges_fit.ensures (w.then_some-is ∙ w.indices_fit.ensures)
      | else-ranges_fit w ↦ rw (w.then_some-is ∙ w.if-ranges_fit.false) (by_ranges _ _ _ c.u16_at-2.ensures (c.from-count.ensures ∙ c.u16_at.ensures) false _
          c.in-2.is w.if-ranges_fit.ensures refl)
    ]

pub returns-in_default : goal.returns-in_default
returns-in_default c = by_none _ _ _ c.u16_at-2.ensures (c.from-count.ensures ∙ c.u16_at.ensures) (λ e. omega arith) (λ e. omega arith)
