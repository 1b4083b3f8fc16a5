-- `cut_parts::part_end` meets its contract: the classes counted lie below the bound. Assumes nothing.
use native.Mathlib.Omega.{arith}
use lib.Dec.{ltb}
use borrow.Author.Tests.{ltb-true, ltb-false}
use Rattle.folds.proofs.Passing.{Passed, passed_inside, passed, stopped}
use Rattle.cut_parts.proofs.part_end.Goals as goal

pub returns : goal.returns
returns c =
    let a = c.args in
    let e : Passed (λ k. ltb k a.hi) a.classes.now a.from c.count_front.result = record { counted = c.count_front.ensures } in
    record {
      after = omega arith;
      inside = passed_inside e c.requires;
      below = λ i l m. ltb-true _ _ (passed e c.requires i l m);
      above = λ l. ltb-false _ _ (stopped e c.requires l);
    }
