-- `pair_sets::linked::row_sorted` meets its contract: no set, one that an earlier row leads to, or one that is looked at. Assumes nothing.
use native.Mathlib.Omega.{arith}
use Rattle.store_rules.specs.Store.{lent}
use Rattle.pair_sets.proofs.Slots.{no_set, looked_at, seen_before}
use mathlib.Core.Path.{ap}
use mathlib.Core.Bool.{not}
use Rattle.pair_sets.proofs.linked.row_sorted.Goals as goal

pub returns-then-not-is_set_slot : goal.returns-then-not-is_set_slot
returns-then-not-is_set_slot c k =
    let a = c.args in
    no_set (lent a.«data».now a.objects.now a.links.now k) a.size a.row c.is_set_slot.ensures (ap not c.if-not-is_set_slot.true)

pub overflow_cast-seen : goal.overflow_cast-seen
overflow_cast-seen c = omega (arith, c.slice_known-2-1.given c.place_of-place.result)

pub returns-then-leads_there : goal.returns-then-leads_there
returns-then-leads_there c k =
    let a = c.args in
    seen_before (lent a.«data».now a.objects.now a.links.now k) a.size a.row c.is_set_slot.ensures (ap not c.if-not-is_set_slot.false)
    a.first _ (c.leads_there.ensures c.if-leads_there.true) (c.requires.by_index k)

pub returns : goal.returns
returns c k =
    let a = c.args in
    looked_at (lent a.«data».now a.objects.now a.links.now k) a.size a.row c.is_set_slot.ensures (ap not c.if-not-is_set_slot.false)
    (c.bytes_of.ensures a.links.now k) c.is_sorted.ensures
