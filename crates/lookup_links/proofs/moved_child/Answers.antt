-- `lookup_links::moved_child` meets its contract: an object without a mark stays as one that is marked with less than 2. Assumes nothing.
use native.Mathlib.Omega.{arith}
use lib.ListN.{get_or-eq_default}
use Rattle.lookup_links.proofs.Redirecting.{stays_there, moves_there}
use Rattle.lookup_links.proofs.moved_child.Goals as goal

pub returns-then-marks-at : goal.returns-then-marks-at
returns-then-marks-at c =
    let a = c.args in
    stays_there a.marks.now a.first a.child (omega (arith, get_or-eq_default a.marks.now 0 c.if-marks-at.true))

pub returns-then-mark-lt2 : goal.returns-then-mark-lt2
returns-then-mark-lt2 c = stays_there _ _ _ c.if-mark-lt2.true

pub overflow_add-result : goal.overflow_add-result
overflow_add-result c = record { fits = c.requires c.if-mark-lt2.false }

pub returns : goal.returns
returns c = moves_there _ _ _ c.if-mark-lt2.false
