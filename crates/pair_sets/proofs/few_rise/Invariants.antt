-- `pair_sets::few_rise` meets its contract: the first `k` glyphs rise, and `last` is the last of them. Assumes nothing.
use Prim.Native.Nat.{◌-◌}
use mathlib.Core.Path.{◌≡◌}
use mathlib.Core.Bool.{true}
use Rattle.pair_sets.specs.Rising.{second_at, rises}
use Rattle.pair_sets.proofs.few_rise.Given as goal

abbrev pub invariant-loop-k : goal.invariant-loop-k
invariant-loop-k l = (l.last ≡ second_at l.set l.size (l.k - 1)) × (rises l.set l.size 0 (l.k - 1) ≡ true)
