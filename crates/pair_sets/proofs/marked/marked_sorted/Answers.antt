-- `pair_sets::marked::marked_sorted` meets its contract: the objects below `i` are sorted sets or have no mark. Assumes nothing.
use Rattle.store_reader.proofs.Checks.{start, turn, stop, fail}
use mathlib.Core.Path.{ap}
use mathlib.Core.Bool.{not}
use Rattle.pair_sets.proofs.marked.marked_sorted.Goals as goal

pub loop-i-init : goal.loop-i-init
loop-i-init c = λ l k. start

pub mark_sorted-requires : goal.mark_sorted-requires
mark_sorted-requires c =
    let i = c.loop-i.i in
    (c.loop-i-test.true, c.requires.0 i c.loop-i-test.true, c.requires.1)

pub returns-then-not-mark_sorted : goal.returns-then-not-mark_sorted
returns-then-not-mark_sorted c l k = fail (c.loop-i.invariant l k) c.loop-i-test.true (c.mark_sorted.ensures l k) (ap not c.if-not-mark_sorted.true)

pub loop-i-preserved : goal.loop-i-preserved
loop-i-preserved c l k = turn (c.loop-i.invariant l k) c.loop-i-test.true (c.mark_sorted.ensures l k) (ap not c.if-not-mark_sorted.false)

pub returns : goal.returns
returns c l k = stop (c.loop-i.invariant l k) c.loop-i-test.false
