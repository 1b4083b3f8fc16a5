-- `store_link_rows::move_row` meets its contract: what is written is what was read, in another place. Assumes nothing.
use Rattle.store_link_rows.proofs.RowLaws.{row_moved}
use Rattle.store_link_rows.proofs.move_row.Goals as goal

pub returns : goal.returns
returns c = row_moved _ _ _ _ _ c.row_at-row.ensures c.put_row.ensures
