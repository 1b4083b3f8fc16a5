-- `store_walk::prepare` meets its contract: the scratch is zero, then has the last row of each object, and then where its rows end. Assumes nothing.
use Rattle.store_walk.proofs.Ends.{blank_zero, blank_still}
use Rattle.store_walk.proofs.prepare.Goals as goal

pub last_rows-requires : goal.last_rows-requires
last_rows-requires c = blank_zero c.requires (c.fill.ensures.after (λ y e. e))

pub row_ends-requires : goal.row_ends-requires
row_ends-requires c = (blank_still (blank_zero c.requires (c.fill.ensures.after (λ y e. e))).0 c.last_rows.auto.walk, c.last_rows.ensures)
