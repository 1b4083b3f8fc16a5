-- `lookup_split::split_in_lookups` meets its contract: new tables are entered or refused, and the scratch is cleared. Assumes nothing.
use mathlib.Core.Path.{◌∙◌}
use Rattle.call_rules.specs.Scratch.{scratch_of}
use Rattle.call_lists.proofs.Split.{then_cleared}
use Rattle.call_lists.proofs.GivenOut.{given_out}
use Rattle.lookup_split.proofs.split_in_lookups.Goals as goal

pub shape_of-walk : goal.shape_of-walk
shape_of-walk c = c.walk-2-1.given ∙ c.walk-1.given

pub shape_of-glyph_set : goal.shape_of-glyph_set
shape_of-glyph_set c = c.glyph_set-2-1.given ∙ c.glyph_set-1.given

pub shape_of-glyphs : goal.shape_of-glyphs
shape_of-glyphs c = c.glyphs-2-1.given ∙ c.glyphs-1.given

pub shape_of-classes : goal.shape_of-classes
shape_of-classes c = c.classes-2-1.given ∙ c.classes-1.given

pub shape_of-cuts : goal.shape_of-cuts
shape_of-cuts c = c.cuts-2-1.given ∙ c.cuts-1.given

pub returns : goal.returns
returns c =
    let a = c.args in
    given_out c.enter_any-entered.result c.give_out.ensures.answer c.give_out.ensures.count
    (then_cleared {w = scratch_of a.walk.now a.glyph_set.now a.glyphs.now a.classes.now a.cuts.now}
    (record { walk = c.enter_any-entered.auto.walk; set = c.enter_any-entered.auto.glyph_set; glyphs = c.enter_any-entered.auto.glyphs; classes = c.enter_any-entered.auto.classes; cuts = c.enter_any-entered.auto.cuts })
    c.clear_scratch.ensures c.enter_any-entered.ensures)
