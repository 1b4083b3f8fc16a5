-- `pair_values::numbers_at` meets its contract: the fields before `j` are read, and each field's name is its row. Assumes nothing.
use lib.IntN.{pos}
use Rattle.store_rules.specs.Store.{lent}
use Rattle.pair_rules.specs.Pairs.{number_of}
use Rattle.pair_values.proofs.Filled.{Filled}
use Rattle.pair_values.proofs.numbers_at.Given as goal

abbrev pub invariant-loop-j : goal.invariant-loop-j
invariant-loop-j l = Filled (pos 0) (number_of (lent l.«data» l.objects l.links l.counts) l.object l.at l.format) 8 l.numbers l.j
