-- `lookup_checks::order::order_rows` meets its contract: what the rows before i lead to is in order. Assumes nothing.
use mathlib.Core.Path.{refl}
use Rattle.store_rules.specs.Store.{lent}
use Rattle.store_rules.proofs.Sound.{sound_fits}
use Rattle.lookup_checks.proofs.Objects.{lead_used}
use Rattle.lookup_checks.proofs.Choosing.{begin, met, placed, one_chosen, one_other, end}
use Rattle.lookup_checks.proofs.order.order_rows.Goals as goal

pub loop-i-init : goal.loop-i-init
loop-i-init c = begin _ _ _ _ _ (λ j l. (lead_used c.requires.rows_used j l).used) c.requires.orderable refl

pub loop-i-preserved-then-was_marked : goal.loop-i-preserved-then-was_marked
loop-i-preserved-then-was_marked c = met _ _ _ _ _ c.loop-i.invariant c.loop-i-test.true c.was_marked.ensures c.if-was_marked.true

pub is_rewritten-requires : goal.is_rewritten-requires
is_rewritten-requires c = record { object_in_use = lead_used c.requires.rows_used c.loop-i.i c.loop-i-test.true; lookup_value = c.requires.orderable.good c.loop-i.i c.loop-i-test.true }

pub put_lookup-requires : goal.put_lookup-requires
put_lookup-requires c =
    let a = c.args in
    placed _ _ _ _ _ c.loop-i.invariant c.loop-i-test.true c.was_marked.ensures c.if-was_marked.false
    c.is_rewritten.ensures c.if-not-is_rewritten.false
    (sound_fits (lent a.«data».now a.objects.now a.links.now a.counts) c.requires.rows_used.sounds).objects_most

pub loop-i-preserved : goal.loop-i-preserved
loop-i-preserved c =
    one_chosen _ _ _ _ _ c.loop-i.invariant c.loop-i-test.true c.was_marked.ensures c.if-was_marked.false
    c.is_rewritten.ensures c.if-not-is_rewritten.false c.put_lookup.ensures

pub loop-i-preserved-then-not-is_rewritten : goal.loop-i-preserved-then-not-is_rewritten
loop-i-preserved-then-not-is_rewritten c =
    one_other _ _ _ _ _ c.loop-i.invariant c.loop-i-test.true c.was_marked.ensures c.if-was_marked.false
    c.is_rewritten.ensures c.if-not-is_rewritten.true

pub returns : goal.returns
returns c = end _ _ _ _ _ c.loop-i.invariant c.loop-i-test.false
