-- `mark_split::split_markbasepos` meets its contract: the table is split or refused, and the scratch is cleared. Assumes nothing.
use Rattle.call_rules.specs.Scratch.{scratch_of}
use Rattle.call_lists.proofs.Split.{then_cleared}
use Rattle.call_lists.proofs.GivenOut.{given_out}
use Rattle.mark_split.proofs.split_markbasepos.Goals as goal

pub returns : goal.returns
returns c =
    let a = c.args in
    let same = c.split_any-split.auto in
    given_out c.split_any-split.result c.give_out.ensures.answer c.give_out.ensures.count
    (then_cleared {w = scratch_of a.walk.now a.glyph_set.now a.glyphs.now a.classes.now a.cuts.now}
    (record { walk = same.walk; set = same.glyph_set; glyphs = same.glyphs; classes = same.classes; cuts = same.cuts })
    c.clear_scratch.ensures c.split_any-split.ensures)
