-- `ot_lookup::is_one_of` meets its contract: from the first slot on, before the last one's end, and by twos. Assumes nothing.
use Rattle.std.proofs.Common.{arith}
use borrow.Author.Tests.{le-ltb}
use Rattle.ot_lookup.proofs.Tests.{before-slots, past_slots, among-slots}
use Rattle.ot_lookup.proofs.is_one_of.Goals as goal

pub returns-then-position-start : goal.returns-then-position-start
returns-then-position-start c = before-slots _ _ _ c.if-position-start.true

pub returns-then-past-from : goal.returns-then-past-from
returns-then-past-from c = among-slots _ _ _ c.if-position-start.false (omega arith)

pub returns-else-past-from : goal.returns-else-past-from
returns-else-past-from c = rw (le-ltb _ _ c.if-past-from.false) (past_slots _ _ _ c.if-position-start.false (omega arith))
