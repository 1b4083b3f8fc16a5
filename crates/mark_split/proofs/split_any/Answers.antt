-- `mark_split::split_any` meets its contract: refused by one of the first cases, or split as planned. Assumes nothing.
use Rattle.std.proofs.lemmas.Result.{err_from_is_err_and}
use Prim.Native.Nat.{ℕ}
use mathlib.Core.Path.{ap, ◌∙◌}
use mathlib.Core.List.{List}
use Rattle.store_rules.specs.Store.{lent}
use Rattle.call_rules.specs.Scratch.{scratch_of}
use Rattle.call_rules.specs.Answers.{refusal}
use Rattle.call_lists.proofs.Split.{call_settled, call_goes}
use Rattle.mark_rules.specs.Table.{cut_places}
use Rattle.mark_rules.specs.Written.{needed, split_store, new_tables}
use Rattle.mark_rules.specs.Calls.{cut_cases, last_cases, split_cases, split_unless, mark_split_call}
use Rattle.mark_split.proofs.Fronts.{none_applies, at_places, ready}
use Rattle.mark_split.proofs.split_any.Goals as goal

pub split_planned-requires : goal.split_planned-requires
split_planned-requires c =
    let same = c.decide.auto in
    ready c.decide.ensures c.in_ok-plan.was (λ i. (c.slice_known-1.given i).fits) same.glyph_set same.glyphs same.classes

pub returns-in_err-plan : goal.returns-in_err-plan
unfolding mark_split_call split_cases last_cases
returns-in_err-plan c =
    let a = c.args in
    let s = lent a.«data».now a.objects.now a.links.now a.counts.now in
    let w = scratch_of a.walk.now a.glyph_set.now a.glyphs.now a.classes.now a.cuts.now in
    let p = err_from_is_err_and c.from_residual.result c.from_residual.ensures.1 in
    rw (p.1, p.2)
    (call_settled s a.new_tables.now (needed s a.table) (split_store s a.table) (new_tables s a.table) (cut_places a.settings s a.table)
    (cut_cases a.settings s a.table w) w
    (c.decide.ensures.answers ∙ ap refusal c.in_err-plan.was))

pub returns : goal.returns
unfolding mark_split_call split_cases last_cases
returns c =
    let a = c.args in
    let s = lent a.«data».now a.objects.now a.links.now a.counts.now in
    let w = scratch_of a.walk.now a.glyph_set.now a.glyphs.now a.classes.now a.cuts.now in
    c.split_planned.ensures w
    ∙ ap (λ (cs : List ℕ). split_unless (last_cases s a.table cs a.new_tables.now) s a.table cs w a.new_tables.now)
    (at_places c.decide.ensures c.in_ok-plan.was)
    ∙ call_goes s a.new_tables.now (needed s a.table) (split_store s a.table) (new_tables s a.table) (cut_places a.settings s a.table)
    (cut_cases a.settings s a.table w) w (none_applies c.decide.ensures c.in_ok-plan.was)
