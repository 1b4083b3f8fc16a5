-- `glyph_class_parts::class_end` meets its contract: the entries counted are those of the class. Assumes nothing.
use mathlib.Core.Path.{sym, ◌∙◌}
use native.Mathlib.Omega.{arith}
use borrow.Author.Tests.{eqb-true, eq-eqb}
use Rattle.std.specs.Bool.{◌==◌}
use Rattle.folds.proofs.Passing.{Passed, passed_inside, passed, stopped}
use Rattle.folds.proofs.Tests.{true_false}
use Rattle.glyph_class_parts.proofs.class_end.Goals as goal

pub returns : goal.returns
returns c =
    let a = c.args in
    let e : Passed (λ k. k == a.class) a.classes.now a.from c.count_front.result = record { counted = c.count_front.ensures } in
    record {
      after = omega arith;
      inside = passed_inside e c.requires;
      same = λ k l m. eqb-true _ _ (passed e c.requires k l m);
      other = λ l m. true_false (sym (eq-eqb _ _ m) ∙ stopped e c.requires l);
    }
