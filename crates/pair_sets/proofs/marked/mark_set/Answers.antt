-- `pair_sets::marked::mark_set` meets its contract. Assumes nothing.
use mathlib.Core.Path.{refl, sym, ◌∙◌}
use borrow.Author.Tests.{not-true, not-false}
use Rattle.pair_sets.proofs.Marks.{marked_more, marked_none}
use mathlib.Core.Path.{ap}
use mathlib.Core.Bool.{not}
use Rattle.pair_sets.proofs.marked.mark_set.Goals as goal

pub returns-then-not-is_set_slot : goal.returns-then-not-is_set_slot
returns-then-not-is_set_slot c first from m = marked_none m from (sym c.is_set_slot.ensures ∙ not-true _ (ap not c.if-not-is_set_slot.true))

pub returns : goal.returns
returns c first from m = marked_more m from (record { slot = sym c.is_set_slot.ensures ∙ not-false _ (ap not c.if-not-is_set_slot.false); set = refl }) c.requires.child
