-- `store_walk::has_no_rows` meets its contract: it compares what it says. Assumes nothing.
use Prim.Native.Nat.{ℕ, ◌+◌}
use mathlib.Core.Path.{ap}
use lib.Dec.{eqb}
use lib.ListN.{get_or}
use Rattle.store_walk.proofs.has_no_rows.Goals as goal

pub returns : goal.returns
returns c =
    let a = c.args in
    ap (λ (x : ℕ). eqb x (get_or a.walk.now (a.n + a.i) 0)) c.first_row_of.ensures
