-- `store_reader::row_up` meets its contract: the rows before `from` are below the key. Assumes nothing.
use Prim.Native.Nat.{◌+◌, ◌-◌}
use native.Mathlib.Omega.{arith}
use Rattle.store_reader.proofs.Rows.{key_asks, up, down}
use Rattle.store_reader.proofs.row_up.Goals as goal

pub loop-step-init : goal.loop-step-init
loop-step-init c = (c.requires.1, omega arith)

pub key_at-requires : goal.key_at-requires
key_at-requires c = key_asks c.requires.0 _ (omega (arith, c.loop-step.invariant.0.hi_le))

pub first_row_between-requires : goal.first_row_between-requires
first_row_between-requires c =
    let order = c.requires.0 in
    (order, down order c.loop-step.invariant.0 (c.loop-step.from + c.loop-step.step - 1) (omega arith) (omega arith) (omega arith))

pub loop-step-preserved : goal.loop-step-preserved
loop-step-preserved c = (up c.requires.0 c.loop-step.invariant.0 (c.loop-step.from + c.loop-step.step - 1) (omega arith) (omega arith) (omega arith), omega arith)
