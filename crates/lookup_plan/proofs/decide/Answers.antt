-- `lookup_plan::decide` meets its contract: by what the checks of the list decide, and then as for a split. Assumes nothing.
use Rattle.std.proofs.lemmas.Result.{err_from_is_err_and}
use Rattle.store_rules.specs.Store.{Store, lent}
use Rattle.call_rules.specs.Scratch.{Scratch, scratch_of}
use Rattle.lookup_plan.proofs.ListDecided.{list_settled, known_sound, list_good}
use Rattle.lookup_plan.proofs.decide.Goals as goal

pub decide_sound-requires : goal.decide_sound-requires
decide_sound-requires c =
    let store : Store = let a = c.args in lent a.«data».now a.objects.now a.links.now a.counts in
    let all = known_sound c.args.settings (store) c.args.list c.args.table c.ask_list.ensures c.in_ok-ask_list.was in record { settings_value = all.0; counts_value = all.1 }

pub returns-in_err-ask_list : goal.returns-in_err-ask_list
returns-in_err-ask_list c =
    let store : Store = let a = c.args in lent a.«data».now a.objects.now a.links.now a.counts in
    let scratch : Scratch = let a = c.args in scratch_of a.walk.now a.glyph_set.now a.glyphs.now a.classes.now a.cuts.now in
    let p = err_from_is_err_and c.from_residual.result c.from_residual.ensures.1 in
    rw (p.1, p.2) (list_settled c.args.settings (store) c.args.list c.args.table c.ask_list.ensures c.in_err-ask_list.was (scratch))

pub returns : goal.returns
returns c =
    let a = c.args in
    let store : Store = lent a.«data».now a.objects.now a.links.now a.counts in
    list_good a.settings (store) a.list a.table c.ask_list.ensures c.in_ok-ask_list.was a.walk.now _ a.glyph_set.now a.glyphs.now
    a.classes.now a.cuts.now c.ask_list.auto.walk c.decide_sound.ensures
