-- `store_walk::row_ends` meets its contract: an object's rows end behind its last one, or where they start. Assumes nothing.
use Prim.Native.Nat.{◌+◌, ◌<◌, ◌≤◌}
use mathlib.Core.Logic.{⊎_elim}
use mathlib.Core.Path.{◌≡◌, sym, subst, ◌∙◌}
use native.Mathlib.Omega.{arith}
use lib.ListN.{get_or}
use Rattle.folds.proofs.Tests.{either}
use Rattle.store_rules.specs.Store.{lent}
use Rattle.store_rules.proofs.Sound.{sound_fits}
use Rattle.store_reader.specs.Rows.{key_of, FirstRow}
use Rattle.store_reader.proofs.Rows.{in_order_lem}
use Rattle.store_walk.specs.Marks.{LastOf}
use Rattle.store_walk.proofs.Ends.{none_ended, ended_more, end_moves, end_stays}
use Rattle.store_walk.proofs.Marks.{marks_fresh}
use Rattle.store_walk.proofs.row_ends.Goals as goal

pub loop-i-init : goal.loop-i-init
loop-i-init c = none_ended

pub loop-i-preserved : goal.loop-i-preserved
loop-i-preserved c =
    let l = c.args.links.now in
    let m = get_or c.args.counts 2 0 in
    let i = c.loop-i.i in
    let v = c.loop-i.invariant in
    let own = get_or c.loop-i.walk (get_or c.args.counts 1 0 + i) 0 in
    let s = lent c.requires.0.bytes c.requires.0.objects l c.args.counts in
    let order = in_order_lem s (sound_fits s c.requires.0.is_sound) in
    let last : LastOf l m i own = subst (LastOf l m i) (sym (v.rest i (omega arith) c.loop-i-test.true)) (c.requires.1.lasts i c.loop-i-test.true) in
    let next : FirstRow l m (key_of (i + 1) 0) c.max-end.result =
    ⊎_elim
    (λ (d : c.loop-i.end < own).
    let moves : own ≡ c.max-end.result = omega (arith, c.max-end.ensures) in
    subst (FirstRow l m (key_of (i + 1) 0)) moves (end_moves order v.start last d))
    (λ (d : own ≤ c.loop-i.end).
    let stays : c.loop-i.end ≡ c.max-end.result = omega (arith, c.max-end.ensures) in
    subst (FirstRow l m (key_of (i + 1) 0)) stays (end_stays order v.start last d))
    (either c.loop-i.end own) in
    ended_more v c.requires.0.room c.loop-i-test.true next

pub shape_of-walk : goal.shape_of-walk
shape_of-walk c = c.loop-i.invariant.long

pub returns : goal.returns
returns c b o sounds =
    let v = c.loop-i.invariant in
    marks_fresh (sound_fits (lent b o c.args.links.now c.args.counts) sounds) (omega (arith, c.requires.0.room, v.long))
    (λ i h. omega (arith, v.marks i h ∙ c.requires.1.unmarked i h))
    (λ i h. v.ends i (omega (arith, c.loop-i-test.false)))
