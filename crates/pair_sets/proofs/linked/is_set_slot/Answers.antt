-- `pair_sets::linked::is_set_slot` meets its contract: behind the header, and even. Assumes nothing.
use borrow.Author.Tests.{le-leb, lt-leb}
use Rattle.pair_sets.specs.Sets.{is_set_slot}
use Rattle.pair_sets.proofs.linked.is_set_slot.Goals as goal

pub returns-then-position-lt10 : goal.returns-then-position-lt10
unfolding is_set_slot
returns-then-position-lt10 c = rw (lt-leb 10 _ c.if-position-lt10.true)

pub returns : goal.returns
unfolding is_set_slot
returns c = rw (le-leb 10 _ c.if-position-lt10.false)
