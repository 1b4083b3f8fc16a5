-- `pair_values::signed` meets its contract: from 32,768 on, 65,536 is taken off. Assumes nothing.
use native.Mathlib.Omega.{arith}
use Rattle.pair_values.proofs.Fields.{small_signed, difference_fits, large_signed}
use Rattle.pair_values.proofs.signed.Goals as goal

pub returns-then-v-lt32768 : goal.returns-then-v-lt32768
returns-then-v-lt32768 c = small_signed c.args.v c.if-v-lt32768.true

pub overflow_sub-result : goal.overflow_sub-result
overflow_sub-result c = difference_fits c.args.v c.if-v-lt32768.false (omega arith)

pub returns : goal.returns
returns c = large_signed c.args.v c.if-v-lt32768.false (omega arith)
