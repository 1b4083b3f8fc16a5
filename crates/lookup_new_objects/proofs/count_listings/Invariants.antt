-- `lookup_new_objects::count_listings` meets its contract: the rows before k are counted. Assumes nothing.
use Rattle.lookup_new_objects.proofs.Listing.{Counted}
use Rattle.lookup_new_objects.proofs.count_listings.Given as goal

abbrev pub invariant-loop-k : goal.invariant-loop-k
invariant-loop-k l = Counted l.links l.fn.rows l.table l.listings l.k
