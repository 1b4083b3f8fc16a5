-- `mark_points::anchors::class_size_at_cut` meets its contract: only edition 2 walks the class's rows again. Assumes nothing.
use mathlib.Core.Path.{refl, sym, ◌∙◌}
use borrow.Author.Tests.{eq-eqb, eqb-true}
use Rattle.folds.proofs.Tests.{true_false}
use Rattle.mark_points.proofs.anchors.class_size_at_cut.Goals as goal

pub returns-then-edition-eq2 : goal.returns-then-edition-eq2
returns-then-edition-eq2 c =
    record {
      again = λ e. c.class_size.ensures;
      stays = λ e. true_false (sym (eq-eqb _ 2 c.if-edition-eq2.true) ∙ e);
    }

pub returns : goal.returns
returns c = record { again = λ e. absurd (c.if-edition-eq2.false (eqb-true _ 2 e)); stays = λ e. (refl, refl) }
