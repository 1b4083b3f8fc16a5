-- `ot_pairpos::is_head2` meets its contract: one of three. Assumes nothing.
use Rattle.std.proofs.Common.{arith}
use Rattle.std.proofs.lemmas.Bool.Decides.{nat_tests}
use Rattle.folds.specs.Lists.{among}
use Rattle.ot_pairpos.proofs.is_head2.Goals as goal

pub returns-in-2 : goal.returns-in-2
unfolding among
returns-in-2 c = grind (arith, nat_tests)

pub returns-in_default : goal.returns-in_default
unfolding among
returns-in_default c = grind (arith, nat_tests)
