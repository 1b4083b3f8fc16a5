-- `pair_sets::marked::mark_sorted` meets its contract. Assumes nothing.
use Rattle.pair_sets.proofs.Marks.{no_mark_lem, mark_there}
use Rattle.pair_sets.proofs.marked.mark_sorted.Goals as goal

pub returns-then-marks-i-eq0 : goal.returns-then-marks-i-eq0
returns-then-marks-i-eq0 c l k = no_mark_lem _ _ _ _ c.if-marks-i-eq0.true

pub returns : goal.returns
returns c l k = mark_there _ _ _ _ c.if-marks-i-eq0.false (c.bytes_of.ensures l k) c.is_sorted.ensures
