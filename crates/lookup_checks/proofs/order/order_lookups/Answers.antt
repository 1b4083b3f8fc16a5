-- `lookup_checks::order::order_lookups` meets its contract: the list's own rows, over cleared marks. Assumes nothing.
use mathlib.Core.Path.{sym}
use native.Mathlib.Omega.{arith}
use lib.ListN.{length, take, get_or}
use lib.Seq.{length-take-le}
use borrow.Author.Rules.{rules}
use Rattle.store_rules.specs.Store.{lent}
use Rattle.lookup_checks.proofs.Objects.{searchable, rows_used_lem}
use Rattle.lookup_checks.proofs.Listing.{ordered, orderable}
use Rattle.lookup_checks.proofs.order.order_lookups.Goals as goal

pub rows_of-rows-requires : goal.rows_of-rows-requires
rows_of-rows-requires c = let all = searchable c.requires.object_in_use in record { in_order_lem = all.0; parent_bound = all.1 }

-- the walk has a mark for each object
pub slice_bounds-fill-end-2 : goal.slice_bounds-fill-end-2
slice_bounds-fill-end-2 c = sym (length-take-le _ _ (search rules))

pub order_rows-requires : goal.order_rows-requires
order_rows-requires c =
    let a = c.args in
    let s = lent a.«data».now a.objects.now a.links.now a.counts in
    let marks = take (get_or a.counts 1 0) a.walk.now in record { rows_used = rows_used_lem c.requires.object_in_use c.rows_of-rows.ensures; orderable = orderable s a.list a.table c.requires.object_in_use c.requires.table_value c.rows_of-rows.ensures (length marks) a.walk.now (c.fill.ensures.after (λ y e. e)) (length-take-le _ _ (omega (arith, c.requires.counts_in_bounds))) c.requires.counts_in_bounds }

pub returns : goal.returns
returns c =
    let a = c.args in
    let s = lent a.«data».now a.objects.now a.links.now a.counts in
    ordered s a.list a.table c.requires.object_in_use c.requires.table_value c.rows_of-rows.ensures c.order_rows.ensures
