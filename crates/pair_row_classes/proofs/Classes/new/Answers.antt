-- `pair_row_classes::Classes::new` meets its contract: the estimator has no class. Assumes nothing.
use Rattle.pair_row_classes.proofs.ClassesHeld.{held_begins}
use Rattle.pair_row_classes.proofs.Classes.new.Goals as goal

pub returns : goal.returns
returns c = held_begins c.new.ensures
