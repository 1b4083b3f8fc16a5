-- `store_link_rows::put_row` meets its contract: a row's numbers are written, one behind the other. Assumes nothing.
use native.Mathlib.Omega.{arith}
use lib.ListN.{length-set}
use Rattle.store_link_rows.specs.Rows.{link_of}
use Rattle.store_link_rows.proofs.RowLaws.{put-numbers}
use Rattle.store_link_rows.proofs.put_row.Goals as goal

pub bounds-links-at-2 : goal.bounds-links-at-2
bounds-links-at-2 c = simp length-set (omega arith)

pub bounds-links-at-3 : goal.bounds-links-at-3
bounds-links-at-3 c = simp length-set (omega arith)

pub bounds-links-at-4 : goal.bounds-links-at-4
bounds-links-at-4 c = simp length-set (omega arith)

pub bounds-links-at-5 : goal.bounds-links-at-5
bounds-links-at-5 c = simp length-set (omega arith)

pub returns : goal.returns
returns c = put-numbers c.args.links.now c.args.k (link_of c.args.row) c.requires
