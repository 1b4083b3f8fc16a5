-- `vectors::replay`: of the cases replayed so far no more differ than there are. Assumes nothing.
use Rattle.std.proofs.Common.{◌≡◌, ◌≤◌}
use Rattle.vectors.proofs.replay.Given as goal

abbrev pub invariant-loop-k : goal.invariant-loop-k
invariant-loop-k g l = (l.tally.cases ≡ l.count) × (l.tally.differing ≤ l.k)
