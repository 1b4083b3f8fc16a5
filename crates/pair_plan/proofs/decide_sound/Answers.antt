-- `pair_plan::decide_sound` meets its contract: by what the checks without scratch decide. Assumes nothing.
use Rattle.std.proofs.lemmas.Result.{err_from_is_err_and}
use mathlib.Core.Path.{sym, ap, ◌∙◌}
use Rattle.store_rules.specs.Store.{Store, lent}
use Rattle.call_rules.specs.Scratch.{Scratch, scratch_of}
use Rattle.call_rules.specs.Answers.{numbered}
use Rattle.pair_checks.specs.Called.{called_of}
use Rattle.pair_plan.proofs.Deciding.{decided_settled}
use Rattle.pair_plan.proofs.decide_sound.Goals as goal

pub decide_cuts-requires : goal.decide_cuts-requires
decide_cuts-requires c =
    let a = c.args in
    let store : Store = lent a.«data».now a.objects.now a.links.now a.counts in
    record {
      settings_value = c.requires.settings_value;
      cuts_value = ap (called_of store a.table) (sym c.of-lengths.ensures) ∙ sym c.check_call.ensures ∙ ap numbered c.in_ok-opened.was;
    }

pub returns-in_err-opened : goal.returns-in_err-opened
returns-in_err-opened c =
    let a = c.args in
    let store : Store = lent a.«data».now a.objects.now a.links.now a.counts in
    let scratch : Scratch = scratch_of a.walk.now a.glyph_set.now a.glyphs.now a.classes.now a.cuts.now in
    let p = err_from_is_err_and c.from_residual.result c.from_residual.ensures.1 in
    rw (p.1, p.2)
    (decided_settled c.requires.settings_value store a.table scratch (c.check_call.ensures ∙ ap (called_of store a.table) c.of-lengths.ensures)
    c.in_err-opened.was)
