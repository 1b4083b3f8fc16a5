-- `pair_row_classes::Classes::restart` meets its contract: the set is empty again, and the last class is added to it. Assumes nothing.
use Prim.Native.Nat.{◌+◌}
use mathlib.Core.Path.{refl}
use native.Mathlib.Omega.{arith}
use Rattle.pair_row_classes.proofs.ClassesHeld.{part-inside, held_none, held_ready, held_more}
use Rattle.pair_row_classes.proofs.Classes.restart.Goals as goal

pub offset_bounds-glyphs-first : goal.offset_bounds-glyphs-first
offset_bounds-glyphs-first c =
    let (lo, hi) = part-inside c.requires.4 c.requires.2 (c.args.class + 1) _ _ (omega (arith, c.requires.3)) c.requires.5.first c.requires.5.to in
    omega arith

pub slice_bounds-forget-count : goal.slice_bounds-forget-count
slice_bounds-forget-count c =
    let (lo, hi) = part-inside c.requires.4 c.requires.2 (c.args.class + 1) _ _ (omega (arith, c.requires.3)) c.requires.5.first c.requires.5.to in
    omega arith

pub slice_bounds-forget-start : goal.slice_bounds-forget-start
slice_bounds-forget-start c = (part-inside c.requires.4 c.requires.2 (c.args.class + 1) _ _ (omega (arith, c.requires.3)) c.requires.5.first c.requires.5.to).0

pub slice_bounds-forget-end : goal.slice_bounds-forget-end
slice_bounds-forget-end c = (part-inside c.requires.4 c.requires.2 (c.args.class + 1) _ _ (omega (arith, c.requires.3)) c.requires.5.first c.requires.5.to).1

pub offset_bounds-glyphs-from : goal.offset_bounds-glyphs-from
offset_bounds-glyphs-from c =
    let (lo, hi) = part-inside c.requires.4 c.args.class (c.args.class + 1) _ _ (omega arith) c.requires.6 c.requires.5.to in
    omega arith

pub slice_bounds-add-count : goal.slice_bounds-add-count
slice_bounds-add-count c =
    let (lo, hi) = part-inside c.requires.4 c.args.class (c.args.class + 1) _ _ (omega arith) c.requires.6 c.requires.5.to in
    omega arith

pub slice_bounds-add-start : goal.slice_bounds-add-start
slice_bounds-add-start c = (part-inside c.requires.4 c.args.class (c.args.class + 1) _ _ (omega arith) c.requires.6 c.requires.5.to).0

pub slice_bounds-add-end : goal.slice_bounds-add-end
slice_bounds-add-end c = (part-inside c.requires.4 c.args.class (c.args.class + 1) _ _ (omega arith) c.requires.6 c.requires.5.to).1

pub add-requires : goal.add-requires
add-requires c =
    let n = held_none c.requires.5 refl refl c.forget.ensures c.reset-estimator.ensures c.requires.6 in
    held_ready c.requires.4 n (omega arith) c.requires.6 c.requires.5.to

pub returns : goal.returns
returns c =
    λ es cs a order o v e.
    let n = held_none v refl refl c.forget.ensures c.reset-estimator.ensures e in
    held_more o n (omega arith) e v.to c.add.ensures
