-- `store_reader::first_row_between` meets its contract: the rows before `from` are below the key, those from `to` on are not. Assumes nothing.
use Prim.Native.Nat.{◌-◌}
use Rattle.store_reader.specs.Rows.{Bracket}
use Rattle.store_reader.proofs.first_row_between.Given as goal

abbrev pub invariant-loop-from : goal.invariant-loop-from
invariant-loop-from l = Bracket l.links l.count l.key l.from l.to

abbrev pub decreases-loop-from : goal.decreases-loop-from
decreases-loop-from l = l.to - l.from
