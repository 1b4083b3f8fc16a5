-- `lookup_new_objects::count_listings` meets its contract: the rows before k are counted. Assumes nothing.
use Rattle.lookup_new_objects.proofs.Listing.{counted_start, counted_stop, counted_listing, counted_other}
use Rattle.lookup_new_objects.proofs.count_listings.Goals as goal
use Rattle.lookup_new_objects.proofs.count_listings.Goals.{then-child-table, else-child-table}

pub loop-k-init : goal.loop-k-init
loop-k-init c = counted_start _ _ _ c.requires.0 c.requires.1

pub loop-k-preserved : goal.loop-k-preserved
loop-k-preserved c =
    elim c.if-child-table.branch [
      | then-child-table w ↦ rw w.listings-is (counted_listing _ _ _ _ _ c.loop-k.invariant c.loop-k-test.true w.if-child-table.true)
      | else-child-table w ↦ rw w.listings-is (counted_other _ _ _ _ _ c.loop-k.invariant c.loop-k-test.true w.if-child-table.false)
    ]

pub returns : goal.returns
returns c = counted_stop _ _ _ _ _ c.loop-k.invariant c.loop-k-test.false
