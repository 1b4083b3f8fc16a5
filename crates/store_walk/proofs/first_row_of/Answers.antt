-- `store_walk::first_row_of` meets its contract: no rows stand before those of the first object. Assumes nothing.
use Prim.Native.Nat.{ℕ, ◌+◌}
use lib.ListN.{get_or}
use Rattle.store_reader.proofs.Checks.{before-first, before_next}
use Rattle.store_walk.proofs.first_row_of.Goals as goal

pub returns-then-i-eq0 : goal.returns-then-i-eq0
returns-then-i-eq0 c = before-first (λ (j : ℕ). get_or c.args.walk.now (c.args.n + j) 0) c.args.i c.if-i-eq0.true

pub returns : goal.returns
returns c =
    let a = c.args in
    before_next (λ (j : ℕ). get_or a.walk.now (a.n + j) 0) a.i c.if-i-eq0.false
