-- `ot_class_def_reader::list::list_classes` meets its contract: one glyph's class after another. Assumes nothing.
use Rattle.ot_class_def_reader.specs.Lookup.{list_class}
use Rattle.ot_class_def_reader.proofs.Filled.{Filled}
use Rattle.ot_class_def_reader.proofs.list.list_classes.Given as goal

abbrev pub invariant-loop-i : goal.invariant-loop-i
invariant-loop-i l = Filled (list_class l.part l.count) l.glyphs l.initial.out l.out l.i
