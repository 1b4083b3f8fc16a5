-- `store_reader::held_rows::rows_each` meets its contract: a quotient is no more than what it is of. Assumes nothing.
use Prim.Native.Nat.{◌-◌}
use native.Mathlib.Nat.{div-le_self}
use native.Mathlib.Omega.{arith}
use Rattle.store_reader.proofs.held_rows.rows_each.Goals as goal

pub returns : goal.returns
returns c = let a = c.args in omega (arith, div-le_self (a.links.after - a.links.first) a.rows)
