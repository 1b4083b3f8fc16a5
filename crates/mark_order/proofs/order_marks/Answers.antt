-- `mark_order::order_marks` meets its contract: the classes are written, and both lists put in order. Assumes nothing.
use mathlib.Core.Path.{ap, ◌∙◌}
use Rattle.folds.specs.Folds.{upto}
use Rattle.ot_layouts.specs.MarkBasePos.{mark_class}
use Rattle.mark_order.proofs.Entries.{in_class_order}
use Rattle.mark_order.proofs.order_marks.Goals as goal

pub returns : goal.returns
returns c =
    let a = c.args in
    in_class_order a.array.now a.numbers.now
    (c.classes_into.ensures ∙ ap (upto (mark_class a.array.now)) c.requires.classes_len)
    c.order_by_class.ensures.classes_value c.order_by_class.ensures.glyphs_value
