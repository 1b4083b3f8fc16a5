-- `store_reader::row_down` meets its contract: the rows from `to` on are not below the key. Assumes nothing.
use Prim.Native.Nat.{◌-◌, ◌<◌}
use Rattle.store_reader.specs.Rows.{Bracket}
use Rattle.store_reader.proofs.row_down.Given as goal

abbrev pub invariant-loop-step : goal.invariant-loop-step
invariant-loop-step l = Bracket l.links l.count l.key l.lo l.to × (0 < l.step)

abbrev pub decreases-loop-step : goal.decreases-loop-step
decreases-loop-step l = l.to - l.lo
