-- `ot_class_def_reader::list::list_classes` meets its contract: one glyph's class after another. Assumes nothing.
use Rattle.ot_class_def_reader.proofs.Filled.{filled_none, filled_more, filled_all}
use Rattle.ot_class_def_reader.proofs.list.list_classes.Goals as goal

pub loop-i-init : goal.loop-i-init
loop-i-init c = filled_none _ _ _ c.requires.glyphs_in_bounds

pub loop-i-preserved : goal.loop-i-preserved
loop-i-preserved c = filled_more c.loop-i.invariant c.loop-i-test.true c.class_in_list.ensures

pub returns : goal.returns
returns c = filled_all c.loop-i.invariant c.loop-i-test.false
