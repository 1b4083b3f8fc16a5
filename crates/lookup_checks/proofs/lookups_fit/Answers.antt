-- `lookup_checks::lookups_fit` meets its contract: the lookups of the rows before i have been looked at. Assumes nothing.
use mathlib.Core.Path.{refl, sym, ◌∙◌}
use lib.ListN.{length}
use borrow.Author.Tests.{not-false}
use Rattle.lookup_checks.proofs.Objects.{lead_used}
use Rattle.lookup_checks.proofs.Looking.{start, again, unfit, one_more, stop}
use mathlib.Core.Path.{ap}
use mathlib.Core.Bool.{not}
use Rattle.lookup_checks.proofs.lookups_fit.Goals as goal

pub loop-i-init : goal.loop-i-init
loop-i-init c = start _ _ _ _ _ (length c.args.marks.now) (c.fill.ensures.after (λ y e. e)) refl

pub loop-i-preserved-then-was_marked : goal.loop-i-preserved-then-was_marked
loop-i-preserved-then-was_marked c =
    again _ _ _ _ _ c.loop-i.invariant c.loop-i-test.true
    c.was_marked.ensures c.if-was_marked.true

pub lookup_fits-requires : goal.lookup_fits-requires
lookup_fits-requires c = lead_used c.requires c.loop-i.i c.loop-i-test.true

pub returns-then-not-lookup_fits : goal.returns-then-not-lookup_fits
returns-then-not-lookup_fits c = unfit _ _ _ _ _ c.loop-i.invariant c.loop-i-test.true c.lookup_fits.ensures (ap not c.if-not-lookup_fits.true)

pub is_rewritten-named-requires : goal.is_rewritten-named-requires
is_rewritten-named-requires c = record { object_in_use = lead_used c.requires c.loop-i.i c.loop-i-test.true; lookup_value = sym c.lookup_fits.ensures ∙ not-false _ (ap not c.if-not-lookup_fits.false) }

pub loop-i-preserved : goal.loop-i-preserved
loop-i-preserved c =
    one_more _ _ _ _ _ c.loop-i.invariant c.loop-i-test.true
    c.was_marked.ensures c.if-was_marked.false (sym c.lookup_fits.ensures ∙ not-false _ (ap not c.if-not-lookup_fits.false))
    c.is_rewritten-named.ensures

pub returns : goal.returns
returns c = stop _ _ _ _ _ c.loop-i.invariant c.loop-i-test.false
