-- `call_lists::number_tables` meets its contract: the first j numbers are written. Assumes nothing.
use Prim.Native.Nat.{◌+◌, ◌*◌}
use Rattle.call_lists.proofs.Numbering.{Numbering}
use Rattle.call_lists.proofs.number_tables.Given as goal

abbrev pub invariant-loop-j : goal.invariant-loop-j
invariant-loop-j l = Numbering (λ i. l.first + l.per_table * i) l.initial.new_tables l.count l.new_tables l.j
