-- `objects::pack_objects` meets its contract: the kept objects before i are packed, and all from i on are as they came. Assumes nothing.
use mathlib.Core.List.{[]}
use native.Mathlib.Omega.{arith}
use borrow.Author.Tests.{lt-ltb, le-ltb}
use Rattle.store_rules.specs.Store.{lent}
use Rattle.compact_carrying.proofs.Packing.{Lying, lying, packing_start, may_place, packing_kept, packing_dropped, packing_stop, end_small, many_small, bytes_long, objects_long}
use Rattle.compact_carrying.proofs.objects.pack_objects.Goals as goal
use Rattle.compact_carrying.proofs.objects.pack_objects.Goals.{then-walk-i-gt0, else-walk-i-gt0}

pub loop-i-init : goal.loop-i-init
loop-i-init c =
    let lies : Lying (lent c.args.«data».now c.args.objects.now [] c.args.counts) = lying c.args.«data».now c.args.objects.now c.requires.by_index.0 c.args.counts c.requires.by_index.1 in
    packing_start _ _ (lies)

pub bounds-walk-i : goal.bounds-walk-i
bounds-walk-i c = omega (arith, c.loop-i-test.true, c.requires.counts_in_bounds)

pub place-p-requires : goal.place-p-requires
place-p-requires c =
    let lies : Lying (lent c.args.«data».now c.args.objects.now [] c.args.counts) = lying c.args.«data».now c.args.objects.now c.requires.by_index.0 c.args.counts c.requires.by_index.1 in
    may_place _ _ (lies) _ _ _ _ _ _ c.loop-i.invariant c.loop-i-test.true

pub overflow_add-moved : goal.overflow_add-moved
overflow_add-moved c =
    let lies : Lying (lent c.args.«data».now c.args.objects.now [] c.args.counts) = lying c.args.«data».now c.args.objects.now c.requires.by_index.0 c.args.counts c.requires.by_index.1 in
    let v = packing_kept _ _ (lies) _ _ _ _ _ _ c.loop-i.invariant c.loop-i-test.true (lt-ltb _ _ c.if-walk-i-gt0.true) c.place-p.ensures in
    omega (arith, v.moved_low, end_small _ _ (lies) v)

pub overflow_add-j : goal.overflow_add-j
overflow_add-j c =
    let lies : Lying (lent c.args.«data».now c.args.objects.now [] c.args.counts) = lying c.args.«data».now c.args.objects.now c.requires.by_index.0 c.args.counts c.requires.by_index.1 in
    omega (arith, many_small _ _ (lies) c.loop-i.invariant)

pub loop-i-preserved : goal.loop-i-preserved
loop-i-preserved c =
    let lies : Lying (lent c.args.«data».now c.args.objects.now [] c.args.counts) = lying c.args.«data».now c.args.objects.now c.requires.by_index.0 c.args.counts c.requires.by_index.1 in
    elim c.if-walk-i-gt0.branch [
      | then-walk-i-gt0 w ↦ rw (w.data-is, w.objects-is, w.at-is, w.j-is, w.moved-is) (packing_kept _ _ lies _ _ _ _ _ _ c.loop-i.invariant c.loop-i-test.true (lt-ltb _ _ w.if-walk-i-gt0.true) w.place-p.ensures)
      | else-walk-i-gt0 w ↦ rw (w.data-is, w.objects-is, w.at-is, w.j-is, w.moved-is) (packing_dropped _ _ lies _ _ _ _ _ _ c.loop-i.invariant c.loop-i-test.true (le-ltb _ _ w.if-walk-i-gt0.false))
    ]

pub overflow_cast-result : goal.overflow_cast-result
overflow_cast-result c =
    let lies : Lying (lent c.args.«data».now c.args.objects.now [] c.args.counts) = lying c.args.«data».now c.args.objects.now c.requires.by_index.0 c.args.counts c.requires.by_index.1 in
    omega (arith, many_small _ _ (lies) c.loop-i.invariant)

pub shape_of-data : goal.shape_of-data
shape_of-data c =
    let lies : Lying (lent c.args.«data».now c.args.objects.now [] c.args.counts) = lying c.args.«data».now c.args.objects.now c.requires.by_index.0 c.args.counts c.requires.by_index.1 in
    bytes_long _ _ (lies) c.loop-i.invariant

pub shape_of-objects : goal.shape_of-objects
shape_of-objects c =
    let lies : Lying (lent c.args.«data».now c.args.objects.now [] c.args.counts) = lying c.args.«data».now c.args.objects.now c.requires.by_index.0 c.args.counts c.requires.by_index.1 in
    objects_long _ _ (lies) c.loop-i.invariant

pub returns : goal.returns
returns c =
    let lies : Lying (lent c.args.«data».now c.args.objects.now [] c.args.counts) = lying c.args.«data».now c.args.objects.now c.requires.by_index.0 c.args.counts c.requires.by_index.1 in
    packing_stop _ _ (lies) _ _ _ _ _ _ c.loop-i.invariant c.loop-i-test.false
