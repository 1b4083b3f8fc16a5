-- `promise_callers::marks::split` meets its contract: the split's equation gives what is promised. Assumes nothing.
use Rattle.promise_marks.proofs.Calls.{split_keeps}
use Rattle.promise_callers.proofs.marks.split.Goals as goal

pub returns : goal.returns
returns c = split_keeps _ _ _ _ _ _ c.split_markbasepos.ensures
