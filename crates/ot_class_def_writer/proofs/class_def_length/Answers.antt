-- `ot_class_def_writer::class_def_length` meets its contract: the outline decides the form, and its length. Assumes nothing.
use mathlib.Core.Path.{sym, ◌∙◌}
use Rattle.ot_class_def_writer.proofs.Written.{ranges_long, list_long}
use Rattle.ot_class_def_writer.proofs.class_def_length.Goals as goal

pub returns-then-ranges_win : goal.returns-then-ranges_win
returns-then-ranges_win c = sym (ranges_long _ _ _ _ c.outline-outline.ensures (sym c.ranges_win.ensures ∙ c.if-ranges_win.true))

pub returns-else-ranges_win : goal.returns-else-ranges_win
returns-else-ranges_win c = sym (list_long _ _ _ _ c.outline-outline.ensures (sym c.ranges_win.ensures ∙ c.if-ranges_win.false))
