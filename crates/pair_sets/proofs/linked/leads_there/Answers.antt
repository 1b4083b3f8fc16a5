-- `pair_sets::linked::leads_there` meets its contract: each of its tests is one of what it says. Assumes nothing.
use mathlib.Core.Path.{sym, ◌∙◌}
use native.Mathlib.Omega.{arith}
use borrow.Author.Tests.{eqb-true, not-false}
use Rattle.folds.proofs.Tests.{true_false}
use mathlib.Core.Path.{ap}
use mathlib.Core.Bool.{not}
use Rattle.pair_sets.proofs.linked.leads_there.Goals as goal

pub returns-then-other-first : goal.returns-then-other-first
returns-then-other-first c e = true_false (sym e)

pub returns-then-row-other : goal.returns-then-row-other
returns-then-row-other c e = true_false (sym e)

pub returns-then-not-is_set_slot : goal.returns-then-not-is_set_slot
returns-then-not-is_set_slot c e = true_false (sym e)

pub returns : goal.returns
returns c e =
    record {
      from = omega arith;
      before = omega arith;
      slot = sym c.is_set_slot.ensures ∙ not-false _ (ap not c.if-not-is_set_slot.false);
      set = eqb-true _ _ e;
    }
