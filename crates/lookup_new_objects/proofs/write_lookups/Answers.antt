-- `lookup_new_objects::write_lookups` meets its contract: the new lookups before m are written. Assumes nothing.
use native.Mathlib.Omega.{arith}
use Rattle.lookup_new_objects.proofs.Looping.{lookups_start, lookups_stop, lookup_ready, row_small, lookups_turn}
use Rattle.lookup_new_objects.proofs.write_lookups.Goals as goal

pub loop-m-init : goal.loop-m-init
loop-m-init c = lookups_start _ _ _ _ c.requires

pub write_lookup-at-requires : goal.write_lookup-at-requires
write_lookup-at-requires c = lookup_ready _ _ _ _ _ _ _ _ _ c.loop-m.invariant c.requires c.loop-m-test.true

pub overflow_add-row : goal.overflow_add-row
overflow_add-row c = omega (arith, row_small _ _ _ _ _ _ _ _ _ c.loop-m.invariant c.requires c.loop-m-test.true, c.well_formed)

pub loop-m-preserved : goal.loop-m-preserved
loop-m-preserved c = lookups_turn _ _ _ _ _ _ _ _ _ c.loop-m.invariant c.requires c.loop-m-test.true c.write_lookup-at.ensures

pub shape_of-data : goal.shape_of-data
shape_of-data c = c.loop-m.invariant.rounds.same_data

pub shape_of-objects : goal.shape_of-objects
shape_of-objects c = c.loop-m.invariant.rounds.same_rows

pub returns : goal.returns
returns c = lookups_stop _ _ _ _ _ _ _ _ _ c.loop-m.invariant c.loop-m-test.false
