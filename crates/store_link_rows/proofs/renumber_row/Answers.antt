-- `store_link_rows::renumber_row` meets its contract: what is written is what was read, between other ends. Assumes nothing.
use Rattle.store_rules.specs.Store.{joining}
use Rattle.store_link_rows.proofs.RowLaws.{row_changed}
use Rattle.store_link_rows.proofs.renumber_row.Goals as goal

pub returns : goal.returns
returns c = row_changed (joining _ _) _ _ _ c.row_at-row.ensures c.put_row.ensures
