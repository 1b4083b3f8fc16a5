-- `pair_new_rows::move_up` meets its contract: rows move from the last on, so that none is written over before it is read. Assumes nothing.
use Rattle.pair_new_rows.proofs.Moving.{Up}
use Rattle.pair_new_rows.proofs.move_up.Given as goal

abbrev pub invariant-loop-left : goal.invariant-loop-left
invariant-loop-left l = Up l.initial.links l.q l.count l.to l.bound l.down l.parent l.links l.left
