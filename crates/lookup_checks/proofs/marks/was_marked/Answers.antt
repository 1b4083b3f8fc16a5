-- `lookup_checks::marks::was_marked` meets its contract: no place, a mark, or none yet. Assumes nothing.
use Rattle.lookup_checks.proofs.OneMark.{has_no_place, has_mark_lem, gets_mark}
use Rattle.lookup_checks.proofs.marks.was_marked.Goals as goal

pub returns-then-marks-at : goal.returns-then-marks-at
returns-then-marks-at c = has_no_place _ _ c.if-marks-at.true

pub returns-then-marks-at-ne0 : goal.returns-then-marks-at-ne0
returns-then-marks-at-ne0 c = has_mark_lem _ _ c.if-marks-at-ne0.true

pub returns : goal.returns
returns c = gets_mark _ _ c.if-marks-at-ne0.false
