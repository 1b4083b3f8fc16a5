-- `lookup_checks::lookups_fit` meets its contract: the lookups of the rows before i have been looked at. Assumes nothing.
use lib.ListN.{length}
use Rattle.store_rules.specs.Store.{lent}
use Rattle.lookup_checks.specs.Rows.{row_count, leads_at}
use Rattle.lookup_checks.proofs.Looking.{Looked}
use Rattle.lookup_checks.proofs.lookups_fit.Given as goal

abbrev pub invariant-loop-i : goal.invariant-loop-i
invariant-loop-i l = Looked (lent l.«data» l.objects l.links l.counts) l.table (leads_at l.links l.rows) (row_count l.rows) (length l.initial.marks) l.marks l.named l.i
