-- `compact_marking::mark_kept` meets its contract: the first k roots have been walked from. Assumes nothing.
use Prim.Native.Nat.{◌≤◌}
use mathlib.Core.Path.{◌≡◌}
use lib.ListN.{length, take}
use Rattle.compact_marking.specs.Rooted.{Rooting}
use Rattle.compact_marking.proofs.mark_kept.Given as goal

abbrev pub invariant-loop-root : goal.invariant-loop-root
invariant-loop-root l = (l.root-index ≤ length l.roots) × Rooting l.objects l.links l.counts (take l.root-index l.roots) l.walk × (length l.walk ≡ length l.initial.walk)
