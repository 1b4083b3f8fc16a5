-- `pair_reading::check_sorted` meets its contract: the pair sets decide. Assumes nothing.
use native.Mathlib.Omega.{arith}
use Rattle.store_rules.specs.Store.{lent}
use Rattle.pair_checks.proofs.Refusals.{opens}
use Rattle.pair_reading.proofs.Checking.{not_sorted, all_sorted}
use mathlib.Core.Path.{ap}
use mathlib.Core.Bool.{not}
use Rattle.pair_reading.proofs.check_sorted.Goals as goal

pub sets_sorted-requires : goal.sets_sorted-requires
sets_sorted-requires c =
    let a = c.args in
    let o = opens (lent a.«data».now a.objects.now a.links.now a.counts) a.table a.opened c.requires in
    record { reads = o.reads; layout_value = (o.layout, omega arith) }

pub returns-then-not-sets_sorted : goal.returns-then-not-sets_sorted
returns-then-not-sets_sorted c =
    let a = c.args in
    not_sorted (lent a.«data».now a.objects.now a.links.now a.counts) a.table c.requires c.sets_sorted.ensures (ap not c.if-not-sets_sorted.true)

pub returns : goal.returns
returns c =
    let a = c.args in
    all_sorted (lent a.«data».now a.objects.now a.links.now a.counts) a.table c.requires c.sets_sorted.ensures (ap not c.if-not-sets_sorted.false)
