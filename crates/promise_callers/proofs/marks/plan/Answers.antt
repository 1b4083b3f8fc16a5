-- `promise_callers::marks::plan` meets its contract: the cut plan's equation gives what is promised. Assumes nothing.
use Rattle.promise_marks.proofs.Calls.{plan_keeps}
use Rattle.promise_callers.proofs.marks.plan.Goals as goal

pub returns : goal.returns
returns c = plan_keeps _ _ _ _ _ _ c.cut_plan_markbasepos.ensures
