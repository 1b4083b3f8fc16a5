-- `compact_call::compact` meets its contract: by what the checks decide. Assumes nothing.
use Rattle.std.specs.Prelude.{None}
use mathlib.Core.Path.{◌≡◌, ap, ◌∙◌}
use native.Mathlib.Omega.{arith}
use Rattle.store_rules.specs.Store.{Store, lent}
use Rattle.call_rules.specs.Answers.{first_case, refusal}
use Rattle.compact_rules.specs.Calls.{compact_cases}
use Rattle.compact_rules.proofs.Cases.{none_refuses}
use Rattle.compact_call.proofs.Calling.{refused_call, done_call, root_low}
use Rattle.compact_call.proofs.compact.Goals as goal

pub returns-in-Err : goal.returns-in-Err
returns-in-Err c =
    let store : Store = lent c.args.«data».now c.args.objects.now c.args.links.now c.args.counts.now in
    refused_call (store) c.args.roots.now c.args.walk.now c.check.ensures c.in-Err.is c.from.ensures (c.fill.ensures.after (λ y e. e))

pub mark_kept-requires : goal.mark_kept-requires
mark_kept-requires c =
    let store : Store = lent c.args.«data».now c.args.objects.now c.args.links.now c.args.counts.now in
    let goes : (first_case (compact_cases (store) c.args.roots.now c.args.walk.now) ≡ None) = c.check.ensures ∙ ap refusal c.in_default.is in
    let (sounds, used, long) = none_refuses (store) c.args.roots.now c.args.walk.now (goes) in
    record { by_index = (c.args.«data».now, sounds); by_index_2 = root_low _ c.args.roots.now used; counts_in_bounds = long }

pub carry_out-requires : goal.carry_out-requires
carry_out-requires c =
    let store : Store = lent c.args.«data».now c.args.objects.now c.args.links.now c.args.counts.now in
    let goes : (first_case (compact_cases (store) c.args.roots.now c.args.walk.now) ≡ None) = c.check.ensures ∙ ap refusal c.in_default.is in
    let (sounds, used, long) = none_refuses (store) c.args.roots.now c.args.walk.now (goes) in
    record { sounds = sounds; used = used; long = omega (arith, c.walk-2-1.given); marks = (c.mark_kept.ensures c.args.«data».now sounds).kept }

pub returns : goal.returns
returns c =
    let store : Store = lent c.args.«data».now c.args.objects.now c.args.links.now c.args.counts.now in
    let goes : (first_case (compact_cases (store) c.args.roots.now c.args.walk.now) ≡ None) = c.check.ensures ∙ ap refusal c.in_default.is in
    done_call (store) c.args.roots.now c.args.walk.now _ _ (goes) c.walk-2-1.given c.carry_out.ensures
