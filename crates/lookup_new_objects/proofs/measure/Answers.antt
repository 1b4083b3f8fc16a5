-- `lookup_new_objects::measure` meets its contract: what the new lookups before m need is added up. Assumes nothing.
use native.Mathlib.Omega.{arith}
use Rattle.lookup_new_objects.proofs.Measuring.{added_start, can_size, added_turn, added_fit, added_over}
use Rattle.lookup_new_objects.proofs.measure.Goals.{then-fits, else-fits}
use Rattle.lookup_new_objects.proofs.measure.Goals as goal

pub loop-lookup-init : goal.loop-lookup-init
loop-lookup-init c = added_start _ _ _ _

pub measure_lookup-size-requires : goal.measure_lookup-size-requires
measure_lookup-size-requires c = can_size _ c.args.table _ _ c.requires _ c.loop-lookup-test.true

pub overflow_add-needed : goal.overflow_add-needed
overflow_add-needed c = omega (arith, c.loop-lookup.invariant.links_few, c.measure_lookup-size.ensures.links_few, c.requires.short, c.loop-lookup-test.true)

pub overflow_add-bytes : goal.overflow_add-bytes
overflow_add-bytes c = omega (arith, c.loop-lookup.invariant.bytes_few, c.measure_lookup-size.ensures.bytes_few, c.requires.short, c.loop-lookup-test.true)

pub loop-lookup-preserved : goal.loop-lookup-preserved
loop-lookup-preserved c =
    added_turn _ _ _ _ _ _ _ _ c.loop-lookup.invariant c.loop-lookup-test.true c.measure_lookup-size.ensures
    (elim c.if-fits.branch [
      | then-fits w ↦ rw (w.fits-is, w.if-fits.true)
      | else-fits w ↦ rw (w.fits-is, w.if-fits.false)
    ])

pub returns-then-fits-2 : goal.returns-then-fits-2
returns-then-fits-2 c us many = added_fit _ _ _ _ _ _ _ _ c.loop-lookup.invariant c.loop-lookup-test.false us many c.if-fits-2.true

pub returns-else-fits-2 : goal.returns-else-fits-2
returns-else-fits-2 c us many = added_over _ _ _ _ _ _ _ _ c.loop-lookup.invariant c.loop-lookup-test.false us many c.if-fits-2.false
