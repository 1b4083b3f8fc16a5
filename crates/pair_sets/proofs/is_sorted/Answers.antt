-- `pair_sets::is_sorted` meets its contract: a set of exact length is sorted where its glyphs rise. Assumes nothing.
use mathlib.Core.Path.{◌∙◌}
use native.Mathlib.Omega.{arith}
use Rattle.pair_sets.proofs.Widths.{records_fit}
use Rattle.pair_sets.proofs.Ascending.{too_short_lem, not_long, exact}
use Rattle.pair_sets.proofs.is_sorted.Goals as goal

pub returns-then-set-lt2 : goal.returns-then-set-lt2
returns-then-set-lt2 c = too_short_lem _ _ c.if-set-lt2.true

pub overflow_mul-size : goal.overflow_mul-size
overflow_mul-size c = omega (arith, records_fit c.args.size c.from-count.result (omega arith) (omega arith))

pub overflow_add-size-2 : goal.overflow_add-size-2
overflow_add-size-2 c = omega (arith, records_fit c.args.size c.from-count.result (omega arith) (omega arith))

pub returns-then-set-size : goal.returns-then-set-size
returns-then-set-size c = not_long _ _ (c.from-count.ensures ∙ c.u16_at.ensures) c.if-set-size.true

pub returns-then-count-lt17 : goal.returns-then-count-lt17
returns-then-count-lt17 c = c.few_rise.ensures ∙ exact _ _ (c.from-count.ensures ∙ c.u16_at.ensures) c.if-set-size.false

pub returns : goal.returns
returns c = c.many_rise.ensures ∙ exact _ _ (c.from-count.ensures ∙ c.u16_at.ensures) c.if-set-size.false
