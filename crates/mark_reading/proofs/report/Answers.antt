-- `mark_reading::report` meets its contract: by the attachment. Assumes nothing.
use Rattle.mark_rules.specs.Calls.{reported}
use Rattle.mark_reading.proofs.report.Goals as goal

pub returns-in-None : goal.returns-in-None
unfolding reported
returns-in-None c = rw c.in-None.is

pub returns-in-Some : goal.returns-in-Some
unfolding reported
returns-in-Some c = rw c.in-Some.is
