-- `store_reader::row_up` meets its contract: the rows before `from` are below the key. Assumes nothing.
use Prim.Native.Nat.{◌-◌, ◌<◌}
use Rattle.store_reader.specs.Rows.{Bracket}
use Rattle.store_reader.proofs.row_up.Given as goal

abbrev pub invariant-loop-step : goal.invariant-loop-step
invariant-loop-step l = Bracket l.links l.count l.key l.from l.hi × (0 < l.step)

abbrev pub decreases-loop-step : goal.decreases-loop-step
decreases-loop-step l = l.hi - l.from
