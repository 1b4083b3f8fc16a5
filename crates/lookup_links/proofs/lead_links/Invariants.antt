-- `lookup_links::lead_links` meets its contract: the rows before k are redirected. Assumes nothing.
use Rattle.store_link_rows.proofs.Changing.{Changed}
use Rattle.lookup_links.proofs.Redirecting.{redirected_by}
use Rattle.lookup_links.proofs.lead_links.Given as goal

abbrev pub invariant-loop-k : goal.invariant-loop-k
invariant-loop-k l = Changed (redirected_by l.marks l.first) l.initial.links l.count l.links l.k
