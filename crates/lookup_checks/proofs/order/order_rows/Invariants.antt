-- `lookup_checks::order::order_rows` meets its contract: what the rows before i lead to is in order. Assumes nothing.
use lib.ListN.{length}
use Rattle.store_rules.specs.Store.{lent}
use Rattle.lookup_checks.specs.Rows.{row_count, leads_at}
use Rattle.lookup_checks.proofs.Choosing.{Chosen}
use Rattle.lookup_checks.proofs.order.order_rows.Given as goal

abbrev pub invariant-loop-i : goal.invariant-loop-i
invariant-loop-i l = Chosen (lent l.«data» l.objects l.links l.counts) l.table (leads_at l.links l.rows) (row_count l.rows) (length l.initial.walk) l.walk l.found l.i
