-- `vectors::input::Text::next_list` ends with its list. Assumes nothing.
use Rattle.std.proofs.Common.{◌≤◌, ◌-◌, vec_len}
use Rattle.vectors.proofs.input.Text.next_list.Given as goal

abbrev pub invariant-loop-self : goal.invariant-loop-self
invariant-loop-self g l = vec_len l.list ≤ l.count

abbrev pub decreases-loop-self : goal.decreases-loop-self
decreases-loop-self g l = l.count - vec_len l.list
