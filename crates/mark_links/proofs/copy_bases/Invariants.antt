-- `mark_links::copy_bases` meets its contract: the links of the bases before this one are copied. Assumes nothing.
use Prim.Native.Nat.{◌-◌}
use Rattle.store_link_rows.proofs.Copying.{Turns}
use Rattle.mark_links.proofs.Bases.{base_turn}
use Rattle.mark_links.proofs.copy_bases.Given as goal

abbrev pub invariant-loop-base : goal.invariant-loop-base
invariant-loop-base l =
    Turns l.initial.links l.counts l.at (base_turn l.array.object l.classes l.lo (l.hi - l.lo) l.parent) l.bases l.links l.next l.base
