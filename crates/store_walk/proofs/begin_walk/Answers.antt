-- `store_walk::begin_walk` meets its contract: the scratch is prepared, and the walk begun. Assumes nothing.
use native.Mathlib.Omega.{arith}
use Rattle.store_walk.proofs.begin_walk.Goals as goal

pub prepare-requires : goal.prepare-requires
prepare-requires c = record { bytes = c.requires.by_index.0; objects = c.args.objects.now; is_sound = c.requires.by_index.1; room = c.requires.table_bound.1 }

pub walk_before-requires : goal.walk_before-requires
walk_before-requires c =
    let (b, is_sound) = c.requires.by_index in
    (c.requires.table_bound.0, record { bytes = b; is_sound = is_sound; marks = c.prepare.ensures b c.args.objects.now is_sound; early = omega arith }, c.requires.table_bound.2)
