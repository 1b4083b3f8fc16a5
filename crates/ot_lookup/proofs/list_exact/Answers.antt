-- `ot_lookup::list_exact` meets its contract: one with no count is too short for any. Assumes nothing.
use Rattle.std.proofs.Common.{arith}
use borrow.Author.Tests.{lt-leb}
use Rattle.ot_layouts.specs.Lookup.{list_exact}
use Rattle.ot_lookup.proofs.Tests.{list_short}
use Rattle.ot_lookup.proofs.list_exact.Goals as goal

pub returns-then-list-ge2 : goal.returns-then-list-ge2
unfolding list_exact
returns-then-list-ge2 c = rw (c.from.ensures, c.lookup_count.ensures)

pub returns-else-list-ge2 : goal.returns-else-list-ge2
returns-else-list-ge2 c = rw (lt-leb _ _ c.if-list-ge2.false) (list_short _ (omega arith))
