-- `halving::partition_point` meets its contract: the test holds just before `low` and fails at `high`. Assumes nothing.
use Prim.Native.Nat.{◌-◌, ◌≤◌, ◌<◌}
use mathlib.Core.Bool.{true, false}
use Rattle.halving.proofs.partition_point.Given as goal

abbrev pub invariant-loop-low : goal.invariant-loop-low
invariant-loop-low g l =
    record {
      from : l.lo ≤ l.low;
      met : l.low ≤ l.high;
      upto : l.high ≤ l.hi;
      before : l.lo < l.low → goal.F-post g l.is_below (l.low - 1) true;
      at : l.high < l.hi → goal.F-post g l.is_below l.high false;
    }

abbrev pub decreases-loop-low : goal.decreases-loop-low
decreases-loop-low g l = l.high - l.low
