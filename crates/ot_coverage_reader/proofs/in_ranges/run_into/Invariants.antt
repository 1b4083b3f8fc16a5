-- `in_ranges::run_into` meets its contract: one number is written a turn. Assumes nothing.
use Prim.Native.Nat.{◌+◌}
use Rattle.folds.proofs.Writing.{Writing}
use Rattle.ot_coverage_reader.proofs.in_ranges.run_into.Given as goal

abbrev pub invariant-loop-j : goal.invariant-loop-j
invariant-loop-j l = Writing (λ i. l.from + i) l.initial.out l.at l.count l.out l.j
