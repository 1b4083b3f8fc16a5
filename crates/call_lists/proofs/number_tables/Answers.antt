-- `call_lists::number_tables` meets its contract: the first j numbers are written. Assumes nothing.
use Prim.Native.Nat.{◌+◌, ◌*◌}
use native.Mathlib.Omega.{arith}
use Rattle.call_lists.proofs.Numbering.{number_start, number_turn, number_stop, number_small}
use Rattle.call_lists.proofs.number_tables.Goals as goal

pub loop-j-init : goal.loop-j-init
loop-j-init c = let a = c.args in number_start (λ i. a.first + a.per_table * i) _ _ c.requires.0

pub overflow_mul-new_tables : goal.overflow_mul-new_tables
overflow_mul-new_tables c = omega (arith, number_small c.args.per_table _ _ c.loop-j-test.true)

pub overflow_add-new_tables : goal.overflow_add-new_tables
overflow_add-new_tables c = omega (arith, number_small c.args.per_table _ _ c.loop-j-test.true)

pub overflow_cast-new_tables-in-loop-j : goal.overflow_cast-new_tables-in-loop-j
overflow_cast-new_tables-in-loop-j c = omega (arith, number_small c.args.per_table _ _ c.loop-j-test.true)

pub loop-j-preserved : goal.loop-j-preserved
loop-j-preserved c = let a = c.args in number_turn (λ i. a.first + a.per_table * i) _ _ c.requires.0 _ _ c.loop-j.invariant c.loop-j-test.true

pub returns : goal.returns
returns c = let a = c.args in number_stop (λ i. a.first + a.per_table * i) _ _ c.requires.0 _ _ c.loop-j.invariant c.loop-j-test.false
