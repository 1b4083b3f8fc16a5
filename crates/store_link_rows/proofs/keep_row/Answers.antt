-- `store_link_rows::keep_row` meets its contract: the child is the only number that changes. Assumes nothing.
use native.Mathlib.Omega.{arith}
use Rattle.store_link_rows.proofs.Keeping.{kept_own, kept_other, kept_order}
use Rattle.store_link_rows.proofs.keep_row.Goals as goal

pub returns-then-links-at : goal.returns-then-links-at
returns-then-links-at c = kept_other _ _ _ _ _ (omega arith) c.if-links-at.true

pub returns-then-links-at-ne0 : goal.returns-then-links-at-ne0
returns-then-links-at-ne0 c = kept_order _ _ _ _ _ (omega arith) c.if-links-at-ne0.true

pub returns : goal.returns
returns c = kept_own _ _ _ _ _ _ (omega arith) c.if-links-at.false c.if-links-at-ne0.false c.own_child.ensures
