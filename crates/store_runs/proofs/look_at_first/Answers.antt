-- `store_runs::look_at_first` walks only where the tests were passed. Assumes nothing.
use native.Mathlib.Omega.{arith}
use Rattle.store_runs.proofs.Walking.{objects_few, can_look}
use mathlib.Core.Path.{ap}
use mathlib.Core.Bool.{not}
use Rattle.store_runs.proofs.look_at_first.Goals as goal

pub overflow_cast-counts : goal.overflow_cast-counts
overflow_cast-counts c = let a = c.args in omega (arith, objects_few a.«data».now a.objects.now a.links.now a.counts c.is_sound.ensures (ap not c.if-not-is_sound.false))

pub overflow_mul-counts : goal.overflow_mul-counts
overflow_mul-counts c = let a = c.args in omega (arith, objects_few a.«data».now a.objects.now a.links.now a.counts c.is_sound.ensures (ap not c.if-not-is_sound.false))

pub walk_from_first-requires : goal.walk_from_first-requires
walk_from_first-requires c =
    let a = c.args in
    can_look a.«data».now a.objects.now a.links.now a.counts c.is_sound.ensures (ap not c.if-not-is_sound.false)
    a.walk.now c.if-counts-eq0.false c.if-walk-counts.false
