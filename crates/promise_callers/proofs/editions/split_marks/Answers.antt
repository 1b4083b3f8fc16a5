-- `promise_callers::editions::split_marks` meets its contract: the split's equation gives what edition 2 guarantees. Assumes nothing.
use Rattle.promise_editions.proofs.OfMarks.{marks_guaranteed}
use Rattle.promise_callers.proofs.editions.split_marks.Goals as goal

pub returns : goal.returns
returns c = marks_guaranteed _ _ _ _ _ c.split_markbasepos.ensures
