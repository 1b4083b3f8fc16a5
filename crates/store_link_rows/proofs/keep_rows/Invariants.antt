-- `store_link_rows::keep_rows` meets its contract: the rows before k are done. Assumes nothing.
use Rattle.store_rules.specs.Header.{kept}
use Rattle.store_link_rows.proofs.Changing.{Changed}
use Rattle.store_link_rows.proofs.keep_rows.Given as goal

abbrev pub invariant-loop-k : goal.invariant-loop-k
invariant-loop-k l = Changed (kept l.own l.table l.first) l.initial.links l.count l.links l.k
