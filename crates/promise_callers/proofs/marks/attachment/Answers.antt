-- `promise_callers::marks::attachment` meets its contract: the attachment reading's equation gives what is promised. Assumes nothing.
use Rattle.promise_marks.proofs.Calls.{mark_keeps}
use Rattle.promise_callers.proofs.marks.attachment.Goals as goal

pub returns : goal.returns
returns c = mark_keeps _ _ _ _ _ c.read_mark.ensures
