-- `lookup_split::enter_any` meets its contract: refused by one of the checks, or entered as planned. Assumes nothing.
use Rattle.std.proofs.lemmas.Result.{err_from_is_err_and}
use mathlib.Core.Path.{ap, ◌∙◌}
use Rattle.store_rules.specs.Store.{Store, lent}
use Rattle.call_rules.specs.Scratch.{Scratch, scratch_of}
use Rattle.call_rules.specs.Answers.{refusal}
use Rattle.lookup_split.proofs.WholeCall.{enter_ready, call_goes, call_settled}
use Rattle.lookup_split.proofs.enter_any.Goals as goal

pub enter_planned-requires : goal.enter_planned-requires
enter_planned-requires c =
    enter_ready c.decide.ensures c.in_ok-plan.was (λ i. (c.slice_known-1.given i).fits)
    c.decide.auto.glyphs c.decide.auto.classes c.decide.auto.walk

pub returns-in_err-plan : goal.returns-in_err-plan
returns-in_err-plan c =
    let a = c.args in
    let store : Store = lent a.«data».now a.objects.now a.links.now a.counts.now in
    let scratch : Scratch = scratch_of a.walk.now a.glyph_set.now a.glyphs.now a.classes.now a.cuts.now in
    let p = err_from_is_err_and c.from_residual.result c.from_residual.ensures.1 in
    rw (p.1, p.2)
    (call_settled a.settings (store) a.list a.table (scratch) a.new_tables.now (c.decide.ensures.answers ∙ ap refusal c.in_err-plan.was))

pub returns : goal.returns
returns c =
    let scratch : Scratch = let a = c.args in scratch_of a.walk.now a.glyph_set.now a.glyphs.now a.classes.now a.cuts.now in
    c.enter_planned.ensures (scratch) ∙ call_goes c.decide.ensures c.in_ok-plan.was c.args.new_tables.now
