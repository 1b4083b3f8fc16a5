-- `lookup_checks::check_list` meets its contract: the list, and then its lookups, by the list's own rows. Assumes nothing.
use mathlib.Core.Path.{sym, ◌∙◌}
use native.Mathlib.Omega.{arith}
use lib.ListN.{length-take}
use borrow.Author.Tests.{not-true, not-false}
use Rattle.store_rules.specs.Store.{lent}
use Rattle.lookup_rules.proofs.Linked.{list_linked}
use Rattle.lookup_rules.proofs.Listed.{list_unfit, lookups_decide}
use Rattle.lookup_checks.specs.Rows.{row_count, leads_at}
use Rattle.lookup_checks.proofs.Objects.{use_fits, searchable, rows_used_lem, rows_lead}
use mathlib.Core.Path.{ap}
use mathlib.Core.Bool.{not}
use Rattle.lookup_checks.proofs.check_list.Goals as goal

pub returns-then-not-list_fits : goal.returns-then-not-list_fits
returns-then-not-list_fits c =
    let a = c.args in
    let s = lent a.«data».now a.objects.now a.links.now a.counts in
    list_unfit s a.list a.table (sym c.list_fits.ensures ∙ not-true _ (ap not c.if-not-list_fits.true))

pub rows_of-rows-requires : goal.rows_of-rows-requires
rows_of-rows-requires c = let all = searchable c.requires in record { in_order_lem = all.0; parent_bound = all.1 }

-- the marks are no more than the walk has
pub slice_bounds-lookups_fit-end-2 : goal.slice_bounds-lookups_fit-end-2
slice_bounds-lookups_fit-end-2 c = simp length-take (omega (arith, c.min-most.ensures))

pub lookups_fit-requires : goal.lookups_fit-requires
lookups_fit-requires c = rows_used_lem c.requires c.rows_of-rows.ensures

pub returns : goal.returns
returns c =
    let a = c.args in
    let s = lent a.«data».now a.objects.now a.links.now a.counts in
    let fit = use_fits c.requires in
    let rows = c.rows_of-rows.result in
    let good = sym c.list_fits.ensures ∙ not-false _ (ap not c.if-not-list_fits.false) in
    c.lookups_fit.ensures
    ∙ lookups_decide s a.list a.table good (leads_at s.links rows) (row_count rows)
    (list_linked s fit a.list good ∙ rows_lead fit c.rows_of-rows.ensures)
