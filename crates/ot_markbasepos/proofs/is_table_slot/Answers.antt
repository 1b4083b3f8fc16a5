-- `ot_markbasepos::is_table_slot` meets its contract: one of four. Assumes nothing.
use Rattle.std.proofs.Common.{arith}
use Rattle.std.proofs.lemmas.Bool.Decides.{nat_tests}
use Rattle.ot_layouts.specs.MarkBasePos.{is_table_slot}
use Rattle.folds.specs.Lists.{among}
use Rattle.ot_markbasepos.proofs.is_table_slot.Goals as goal

pub returns-in-2 : goal.returns-in-2
unfolding is_table_slot among
returns-in-2 c = grind (arith, nat_tests)

pub returns-in_default : goal.returns-in_default
unfolding is_table_slot among
returns-in_default c = grind (arith, nat_tests)
