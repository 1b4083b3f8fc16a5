-- `lookup_new_objects::measure` meets its contract: what the new lookups before this one need is added up. Assumes nothing.
use Rattle.store_rules.specs.Store.{lent}
use Rattle.lookup_new_objects.proofs.Measuring.{Added}
use Rattle.lookup_new_objects.proofs.measure.Given as goal

abbrev pub invariant-loop-lookup : goal.invariant-loop-lookup
invariant-loop-lookup l = Added (lent l.«data» l.objects l.links l.counts) l.table l.tables l.lookups l.fits l.needed l.bytes l.lookup-index
