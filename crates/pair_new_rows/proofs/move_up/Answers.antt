-- `pair_new_rows::move_up` meets its contract: rows move from the last on, so that none is written over before it is read. Assumes nothing.
use Prim.Native.Nat.{◌-◌}
use native.Mathlib.Omega.{arith}
use Rattle.pair_new_rows.specs.Blocks.{moved_row}
use Rattle.pair_new_rows.proofs.Moving.{up_start, up_turn, up_stop, up_all}
use Rattle.pair_new_rows.proofs.move_up.Goals as goal

pub loop-left-init : goal.loop-left-init
loop-left-init c = up_start _ _ _ _ _ _ _ (omega arith) (omega arith) (omega arith)

pub returns-then-position-bound : goal.returns-then-position-bound
returns-then-position-bound c =
    up_stop _ _ _ _ _ _ _ _ _ c.loop-left.invariant (c.loop-left.left - 1) (omega arith) c.if-position-bound.true

pub loop-left-preserved : goal.loop-left-preserved
unfolding moved_row
loop-left-preserved c =
    up_turn _ _ _ _ _ _ _ _ _ c.loop-left.invariant (c.loop-left.left - 1) (omega arith) _ c.if-position-bound.false
    c.move_row.auto.links c.move_row.ensures

pub returns : goal.returns
returns c = up_all _ _ _ _ _ _ _ _ _ c.loop-left.invariant (omega arith)
