-- `pair_plan::decide` meets its contract: 12, then 1, and then what is decided of a sound store. Assumes nothing.
use Rattle.std.specs.Prelude.{Err}
use mathlib.Core.Path.{refl}
use Rattle.call_rules.specs.Scratch.{Scratch, scratch_of, lengths_of}
use Rattle.store_rules.specs.Store.{Store, lent}
use Rattle.pair_checks.proofs.Deciding.{tested}
use Rattle.pair_checks.proofs.Called.{call_unsound}
use Rattle.call_rules.specs.declared.Answer.TheVariants.{Unsound}
use Rattle.pair_plan.proofs.Deciding.{decided_unknown, decided_settled}
use Rattle.call_rules.proofs.KnownSettings.{tested_known}
use mathlib.Core.Path.{ap}
use mathlib.Core.Bool.{not}
use Rattle.pair_plan.proofs.decide.Goals as goal

pub returns-then-not-is_known : goal.returns-then-not-is_known
returns-then-not-is_known c = decided_unknown _ c.is_known.ensures (ap not c.if-not-is_known.true)

pub returns-then-not-is_sound : goal.returns-then-not-is_sound
returns-then-not-is_sound c =
    let a = c.args in
    let s : Store = lent a.«data».now a.objects.now a.links.now a.counts in
    let t = a.table in
    let w : Scratch = scratch_of a.walk.now a.glyph_set.now a.glyphs.now a.classes.now a.cuts.now in
    decided_settled (tested_known _ c.is_known.ensures (ap not c.if-not-is_known.false)) s t w {x = Err Unsound}
    (call_unsound s t (lengths_of w) c.is_sound.ensures (ap not c.if-not-is_sound.true)) refl

pub decide_sound-requires : goal.decide_sound-requires
decide_sound-requires c =
    let a = c.args in
    let s : Store = lent a.«data».now a.objects.now a.links.now a.counts in
    record {
      settings_value = tested_known _ c.is_known.ensures (ap not c.if-not-is_known.false);
      counts_value = tested s a.table c.is_sound.ensures (ap not c.if-not-is_sound.false);
    }
