-- `pair_new_rows::spread` meets its contract: from the last table on, the rows from `at` on are those of the tables from j on. Assumes nothing.
use Rattle.pair_new_rows.specs.Blocks.{plan}
use Rattle.pair_new_rows.proofs.Spreading.{At}
use Rattle.pair_new_rows.proofs.spread.Given as goal

abbrev pub invariant-loop-j : goal.invariant-loop-j
invariant-loop-j l = At l.initial.links l.q l.m (plan l.cuts l.layout l.first l.class2) l.links l.j l.left l.at
