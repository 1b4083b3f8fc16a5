-- `mark_plan::decide` meets its contract: by whether the settings are known, and by what the checks without scratch decide. Assumes nothing.
use Rattle.std.proofs.lemmas.Result.{err_from_is_err_and}
use Rattle.store_rules.specs.Store.{Store, lent}
use Rattle.call_rules.specs.Scratch.{scratch_of}
use Rattle.call_rules.specs.declared.Lengths.{Lengths}
use Rattle.mark_checks.specs.Called.{Passed, Calls}
use Rattle.mark_plan.proofs.Deciding.{decided_settled, decided_unknown}
use Rattle.call_rules.proofs.KnownSettings.{tested_known}
use mathlib.Core.Path.{ap, subst}
use mathlib.Core.Bool.{not}
use Rattle.mark_plan.proofs.decide.Goals as goal

pub returns-then-not-is_known : goal.returns-then-not-is_known
returns-then-not-is_known c = decided_unknown _ c.is_known.ensures (ap not c.if-not-is_known.true)

pub decide_cuts-requires : goal.decide_cuts-requires
decide_cuts-requires c =
    let a = c.args in
    let store : Store = lent a.«data».now a.objects.now a.links.now a.counts in
    record {
      settings_value = tested_known _ c.is_known.ensures (ap not c.if-not-is_known.false);
      passed = subst (λ (n : Lengths). Passed store a.table n c.in_ok-opened.opened) c.of-lengths.ensures (c.check_call.ensures.passes _ c.in_ok-opened.was);
    }

pub returns-in_err-opened : goal.returns-in_err-opened
returns-in_err-opened c =
    let a = c.args in
    let store : Store = lent a.«data».now a.objects.now a.links.now a.counts in
    let p = err_from_is_err_and c.from_residual.result c.from_residual.ensures.1 in
    rw (p.1, p.2)
    (decided_settled (tested_known _ c.is_known.ensures (ap not c.if-not-is_known.false))
    (scratch_of a.walk.now a.glyph_set.now a.glyphs.now a.classes.now a.cuts.now)
    (subst (λ (n : Lengths). Calls store a.table n c.check_call.result) c.of-lengths.ensures c.check_call.ensures) c.in_err-opened.was)
