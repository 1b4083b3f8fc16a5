-- `store_walk::last_rows` meets its contract: a later row of an object takes the place of an earlier one. Assumes nothing.
use native.Mathlib.Omega.{arith}
use Rattle.store_rules.specs.Store.{lent}
use Rattle.store_rules.proofs.Sound.{Fits, sound_fits}
use Rattle.store_walk.proofs.Ends.{none_passed, passed_more, lasts_all}
use Rattle.store_walk.proofs.last_rows.Goals as goal

pub loop-k-init : goal.loop-k-init
loop-k-init c = none_passed c.requires.1 c.requires.0.room

pub bounds-links-k : goal.bounds-links-k
bounds-links-k c =
    let fit : Fits (lent c.requires.0.bytes c.requires.0.objects c.args.links.now c.args.counts) = sound_fits _ c.requires.0.is_sound in
    omega (arith, fit.links_in)

pub bounds-walk-n : goal.bounds-walk-n
bounds-walk-n c =
    let fit : Fits (lent c.requires.0.bytes c.requires.0.objects c.args.links.now c.args.counts) = sound_fits _ c.requires.0.is_sound in
    omega (arith, (fit.link c.loop-k.k c.loop-k-test.true).parent_used, c.requires.0.room, c.loop-k.invariant.long)

pub loop-k-preserved : goal.loop-k-preserved
loop-k-preserved c =
    let fit : Fits (lent c.requires.0.bytes c.requires.0.objects c.args.links.now c.args.counts) = sound_fits _ c.requires.0.is_sound in
    passed_more c.loop-k.invariant c.requires.0.room c.loop-k-test.true (fit.link c.loop-k.k c.loop-k-test.true).parent_used

pub shape_of-walk : goal.shape_of-walk
shape_of-walk c = c.loop-k.invariant.long

pub returns : goal.returns
returns c = lasts_all c.loop-k.invariant c.loop-k-test.false
