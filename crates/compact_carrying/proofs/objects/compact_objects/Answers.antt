-- `objects::compact_objects` meets its contract: the kept objects are packed, and what lies behind them is zero. Assumes nothing.
use mathlib.Core.List.{[]}
use native.Mathlib.Omega.{arith}
use Rattle.buffers.proofs.Putting.{filled}
use Rattle.store_rules.specs.Store.{lent}
use Rattle.compact_carrying.proofs.Packing.{Lying, lying}
use Rattle.compact_carrying.proofs.Wiping.{objects_left_lem, rest_asked}
use Rattle.compact_carrying.proofs.objects.compact_objects.Goals as goal

pub overflow_sub-counts : goal.overflow_sub-counts
overflow_sub-counts c =
    let lies : Lying (lent c.args.«data».now c.args.objects.now [] c.args.counts) = lying c.args.«data».now c.args.objects.now c.requires.by_index.0 c.args.counts c.requires.by_index.1 in
    let (a, b, d, o) = rest_asked _ _ (lies) c.pack_objects-packed.ensures in
    omega (arith, lies.bytes_in, lies.bytes_most, lies.rows_in, lies.rows_most)

pub overflow_cast-counts : goal.overflow_cast-counts
overflow_cast-counts c =
    let lies : Lying (lent c.args.«data».now c.args.objects.now [] c.args.counts) = lying c.args.«data».now c.args.objects.now c.requires.by_index.0 c.args.counts c.requires.by_index.1 in
    let (a, b, d, o) = rest_asked _ _ (lies) c.pack_objects-packed.ensures in
    omega (arith, lies.bytes_in, lies.bytes_most, lies.rows_in, lies.rows_most)

pub zero_bytes-requires : goal.zero_bytes-requires
zero_bytes-requires c =
    let lies : Lying (lent c.args.«data».now c.args.objects.now [] c.args.counts) = lying c.args.«data».now c.args.objects.now c.requires.by_index.0 c.args.counts c.requires.by_index.1 in
    let (a, b, d, o) = rest_asked _ _ (lies) c.pack_objects-packed.ensures in
    omega (arith, lies.bytes_in, lies.bytes_most, lies.rows_in, lies.rows_most)

pub slice_bounds-fill-count : goal.slice_bounds-fill-count
slice_bounds-fill-count c =
    let lies : Lying (lent c.args.«data».now c.args.objects.now [] c.args.counts) = lying c.args.«data».now c.args.objects.now c.requires.by_index.0 c.args.counts c.requires.by_index.1 in
    let (a, b, d, o) = rest_asked _ _ (lies) c.pack_objects-packed.ensures in
    omega (arith, lies.bytes_in, lies.bytes_most, lies.rows_in, lies.rows_most)

pub slice_bounds-fill-start : goal.slice_bounds-fill-start
slice_bounds-fill-start c =
    let lies : Lying (lent c.args.«data».now c.args.objects.now [] c.args.counts) = lying c.args.«data».now c.args.objects.now c.requires.by_index.0 c.args.counts c.requires.by_index.1 in
    let (a, b, d, o) = rest_asked _ _ (lies) c.pack_objects-packed.ensures in
    omega (arith, lies.bytes_in, lies.bytes_most, lies.rows_in, lies.rows_most)

pub slice_bounds-fill-end : goal.slice_bounds-fill-end
slice_bounds-fill-end c =
    let lies : Lying (lent c.args.«data».now c.args.objects.now [] c.args.counts) = lying c.args.«data».now c.args.objects.now c.requires.by_index.0 c.args.counts c.requires.by_index.1 in
    let (a, b, d, o) = rest_asked _ _ (lies) c.pack_objects-packed.ensures in
    omega (arith, lies.bytes_in, lies.bytes_most, lies.rows_in, lies.rows_most)

pub returns : goal.returns
returns c =
    let lies : Lying (lent c.args.«data».now c.args.objects.now [] c.args.counts) = lying c.args.«data».now c.args.objects.now c.requires.by_index.0 c.args.counts c.requires.by_index.1 in
    let (a, b, d, o) = rest_asked _ _ (lies) c.pack_objects-packed.ensures in
    objects_left_lem _ _ (lies) c.pack_objects-packed.ensures c.zero_bytes.ensures (filled _ _ _ (omega (arith, lies.rows_most)) (omega (arith, lies.rows_in)) 0 (c.fill.ensures.after (λ y e. e)))
