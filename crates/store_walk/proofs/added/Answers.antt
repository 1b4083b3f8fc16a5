-- `store_walk::added` meets its contract: it is the test's choice. Assumes nothing.
use borrow.Author.Tests.{le-ltb, lt-ltb}
use Rattle.store_walk.proofs.added.Goals as goal

pub returns-then-mark-epoch : goal.returns-then-mark-epoch
returns-then-mark-epoch c = rw (lt-ltb c.args.mark c.args.epoch c.if-mark-epoch.true)

pub returns-else-mark-epoch : goal.returns-else-mark-epoch
returns-else-mark-epoch c = rw (le-ltb c.args.mark c.args.epoch c.if-mark-epoch.false)
