-- `call::check_lent` meets its contract: the lengths, then the slots. Assumes nothing.
use Rattle.store_rules.specs.Store.{lent}
use Rattle.pair_checks.proofs.Refusals.{opens}
use Rattle.pair_checks.proofs.Called.{lent_short, lent_unslotted, lent_open, can_ask_slots}
use mathlib.Core.Path.{ap}
use mathlib.Core.Bool.{not}
use Rattle.pair_checks.proofs.call.check_lent.Goals as goal

pub returns-then-is_short : goal.returns-then-is_short
returns-then-is_short c b o e =
    let a = c.args in
    lent_short (lent b o a.links.now a.counts) a.table a.lengths a.opened c.is_short.ensures c.if-is_short.true

pub links_at_slots-requires : goal.links_at_slots-requires
links_at_slots-requires c =
    let a = c.args in
    let (b, o, e) = c.requires in
    can_ask_slots b o a.links.now a.counts (opens (lent b o a.links.now a.counts) a.table a.opened e)

pub returns-then-not-links_at_slots : goal.returns-then-not-links_at_slots
returns-then-not-links_at_slots c b o e =
    let a = c.args in
    let s = lent b o a.links.now a.counts in
    lent_unslotted s a.table a.lengths a.opened c.is_short.ensures c.if-is_short.false
    (c.links_at_slots.ensures b o (opens s a.table a.opened e).reads.sounds (opens s a.table a.opened e).layout) (ap not c.if-not-links_at_slots.true)

pub returns : goal.returns
returns c b o e =
    let a = c.args in
    let s = lent b o a.links.now a.counts in
    lent_open s a.table a.lengths a.opened c.is_short.ensures c.if-is_short.false
    (c.links_at_slots.ensures b o (opens s a.table a.opened e).reads.sounds (opens s a.table a.opened e).layout) (ap not c.if-not-links_at_slots.false)
