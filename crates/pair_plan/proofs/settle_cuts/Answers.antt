-- `pair_plan::settle_cuts` meets its contract: the table's mark tells of a cycle, and then its pair sets are looked at. Assumes nothing.
use native.Mathlib.Omega.{arith}
use Rattle.store_rules.specs.Store.{lent}
use Rattle.pair_plan.proofs.Deciding.{settled_cycle, settled_unsorted, settled_plan}
use mathlib.Core.Path.{ap}
use mathlib.Core.Bool.{not}
use Rattle.pair_plan.proofs.settle_cuts.Goals as goal

pub returns-then-walk-table-ne0 : goal.returns-then-walk-table-ne0
returns-then-walk-table-ne0 c =
    let a = c.args in
    settled_cycle (lent a.«data».now a.objects.now a.links.now a.counts) a.table a.plan c.requires.tells_cycle.0 c.if-walk-table-ne0.true

pub sets_sorted-requires : goal.sets_sorted-requires
sets_sorted-requires c = record { reads = c.requires.opens.reads; layout_value = (c.requires.opens.layout, omega (arith, c.requires.tells_cycle.1)) }

pub returns-then-not-sets_sorted : goal.returns-then-not-sets_sorted
returns-then-not-sets_sorted c =
    let a = c.args in
    settled_unsorted (lent a.«data».now a.objects.now a.links.now a.counts) a.table a.plan c.requires.tells_cycle.0 c.if-walk-table-ne0.false
    c.sets_sorted.ensures (ap not c.if-not-sets_sorted.true)

pub returns : goal.returns
returns c =
    let a = c.args in
    settled_plan (lent a.«data».now a.objects.now a.links.now a.counts) a.table a.plan c.requires.tells_cycle.0 c.if-walk-table-ne0.false
    c.sets_sorted.ensures (ap not c.if-not-sets_sorted.false)
