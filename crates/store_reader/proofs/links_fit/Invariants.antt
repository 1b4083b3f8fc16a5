-- `store_reader::links_fit` meets its contract: the rows below `k` fit, and `least` is one more than the key of the last of them. Assumes nothing.
use Prim.Native.Nat.{ℕ}
use mathlib.Core.List.{List}
use Rattle.store_rules.specs.Store.{lent}
use Rattle.store_reader.proofs.Keys.{Climbing}
use Rattle.store_reader.proofs.links_fit.Given as goal

abbrev pub invariant-loop-k : goal.invariant-loop-k
invariant-loop-k l = (b : List ℕ) → Climbing (lent b l.objects l.links l.counts) l.k l.least
