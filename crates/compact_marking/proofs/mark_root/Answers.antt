-- `compact_marking::mark_root` meets its contract: a root with a mark is passed over, and from any other its offsets are walked. Assumes nothing.
use Prim.Native.Nat.{ℕ}
use mathlib.Core.Path.{◌∙◌}
use mathlib.Core.List.{List}
use native.Mathlib.Omega.{arith}
use lib.ListN.{get_or, set, length-set}
use borrow.Author.Tests.{lt-ltb}
use Rattle.store_rules.specs.Store.{Store, lent}
use Rattle.store_rules.proofs.Sound.{Fits, sound_fits}
use Rattle.store_walk.specs.Marks.{Marks}
use Rattle.compact_rules.specs.Kept.{from_roots}
use Rattle.compact_marking.specs.Rooted.{Rooted}
use Rattle.compact_marking.proofs.Rooting.{root_marked, own_offsets, passed_over, walked_from}
use Rattle.compact_marking.proofs.mark_root.Goals as goal

pub bounds-walk-r : goal.bounds-walk-r
bounds-walk-r c =
    let store : Store = lent c.requires.by_index.0 c.args.objects.now c.args.links.now c.args.counts in
    let roots : List ℕ = c.requires.root_bound.1.0 in
    let rooted : Rooted (store) (roots) c.args.walk.now = c.requires.root_bound.1.1 c.requires.by_index.0 c.requires.by_index.1 in
    omega (arith, c.requires.root_bound.0, rooted.marks.room)

pub bounds-walk-r-then-walk-r-eq0 : goal.bounds-walk-r-then-walk-r-eq0
bounds-walk-r-then-walk-r-eq0 c =
    let store : Store = lent c.requires.by_index.0 c.args.objects.now c.args.links.now c.args.counts in
    let roots : List ℕ = c.requires.root_bound.1.0 in
    let rooted : Rooted (store) (roots) c.args.walk.now = c.requires.root_bound.1.1 c.requires.by_index.0 c.requires.by_index.1 in
    omega (arith, c.requires.root_bound.0, rooted.marks.room)

pub offsets_of-rows-requires : goal.offsets_of-rows-requires
offsets_of-rows-requires c =
    let store : Store = lent c.requires.by_index.0 c.args.objects.now c.args.links.now c.args.counts in
    let roots : List ℕ = c.requires.root_bound.1.0 in
    let fits : Fits (store) = sound_fits (store) c.requires.by_index.1 in
    let rooted : Rooted (store) (roots) c.args.walk.now = c.requires.root_bound.1.1 c.requires.by_index.0 c.requires.by_index.1 in
    let marks : (Marks (store) (from_roots (store) (roots)) 2 (set c.args.walk.now c.args.root 1)) = root_marked (store) (fits) (roots) c.args.walk.now (rooted) c.args.root c.requires.root_bound.0 c.if-walk-r-eq0.true in
    record { by_index = (c.requires.by_index.0, c.args.objects.now, c.requires.by_index.1); object_bound = (c.requires.root_bound.0, marks.room, marks.ends) }

pub subgraph_size-requires : goal.subgraph_size-requires
subgraph_size-requires c =
    let store : Store = lent c.requires.by_index.0 c.args.objects.now c.args.links.now c.args.counts in
    let roots : List ℕ = c.requires.root_bound.1.0 in
    let fits : Fits (store) = sound_fits (store) c.requires.by_index.1 in
    let rooted : Rooted (store) (roots) c.args.walk.now = c.requires.root_bound.1.1 c.requires.by_index.0 c.requires.by_index.1 in
    let marks : (Marks (store) (from_roots (store) (roots)) 2 (set c.args.walk.now c.args.root 1)) = root_marked (store) (fits) (roots) c.args.walk.now (rooted) c.args.root c.requires.root_bound.0 c.if-walk-r-eq0.true in (
      c.offsets_of-rows.ensures.after.within,
      (from_roots (store) (roots), record { bytes = c.requires.by_index.0; is_sound = c.requires.by_index.1; marks = marks; early = omega arith }),
      own_offsets (store) (fits) (roots) c.args.walk.now (rooted) c.args.root c.requires.root_bound.0 c.if-walk-r-eq0.true c.offsets_of-rows.ensures,
    )

pub shape_of-walk : goal.shape_of-walk
shape_of-walk c = c.walk-1.given ∙ simp length-set

pub returns-then-walk-r-eq0 : goal.returns-then-walk-r-eq0
returns-then-walk-r-eq0 c rs before b sounds =
    let now-store = lent b c.args.objects.now c.args.links.now c.args.counts in
    let f = sound_fits now-store sounds in
    let v = before b sounds in
    walked_from now-store f rs c.args.walk.now v c.args.root c.requires.root_bound.0 c.if-walk-r-eq0.true c.offsets_of-rows.ensures
    (c.subgraph_size.ensures b (from_roots now-store rs)
    (root_marked now-store f rs c.args.walk.now v c.args.root c.requires.root_bound.0 c.if-walk-r-eq0.true))

pub returns-else-walk-r-eq0 : goal.returns-else-walk-r-eq0
returns-else-walk-r-eq0 c rs before b sounds =
    let now-store = lent b c.args.objects.now c.args.links.now c.args.counts in
    passed_over now-store (sound_fits now-store sounds) rs c.args.walk.now (before b sounds) c.args.root c.requires.root_bound.0
    (lt-ltb 0 (get_or c.args.walk.now c.args.root 0) (omega (arith, c.if-walk-r-eq0.false)))
