-- `promise_callers::compaction::compact` meets its contract: the call's equation gives what is promised. Assumes nothing.
use Rattle.promise_compaction.proofs.Promised.{compact_keeps}
use Rattle.promise_callers.proofs.compaction.compact.Goals as goal

pub returns : goal.returns
returns c = compact_keeps _ _ _ _ c.compact.ensures
