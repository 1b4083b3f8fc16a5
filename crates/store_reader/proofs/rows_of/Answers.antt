-- `store_reader::rows_of` meets its contract: its order-only links start where its offsets end. Assumes nothing.
use native.Mathlib.Omega.{arith}
use Rattle.store_reader.proofs.Rows.{rows_rise}
use Rattle.store_reader.proofs.rows_of.Goals as goal

pub returns : goal.returns
returns c =
    let f = c.first_row-first.ensures in
    let g = c.first_row-after.ensures in
    record { first = f; after = g; rise = rows_rise f g (omega arith) }
