-- `store_walk::walk_before` meets its contract: the rows that are walked are the table's first. Assumes nothing.
use native.Mathlib.Omega.{arith}
use lib.ListN.{get_or}
use Rattle.store_rules.specs.Store.{lent}
use Rattle.store_rules.proofs.Sound.{Fits, sound_fits}
use Rattle.store_reader.specs.Rows.{key_of, FirstRow}
use Rattle.store_reader.proofs.Rows.{in_order_lem}
use Rattle.store_walk.specs.Marks.{no_row}
use Rattle.store_walk.proofs.Ends.{rows_start}
use Rattle.store_walk.proofs.Cycles.{begun_offsets, begun, begun_bytes}
use Rattle.store_walk.proofs.walk_before.Goals as goal

pub overflow_cast-m : goal.overflow_cast-m
overflow_cast-m c =
    let fit : Fits (lent c.requires.1.bytes c.args.objects.now c.args.links.now c.args.counts) = sound_fits (lent c.requires.1.bytes c.args.objects.now c.args.links.now c.args.counts) c.requires.1.is_sound in
    omega (arith, fit.links_most)

pub first_row_of-lo-requires : goal.first_row_of-lo-requires
first_row_of-lo-requires c =
    let fit : Fits (lent c.requires.1.bytes c.args.objects.now c.args.links.now c.args.counts) = sound_fits (lent c.requires.1.bytes c.args.objects.now c.args.links.now c.args.counts) c.requires.1.is_sound in
    (omega (arith, c.requires.0, c.requires.1.marks.room), omega (arith, c.requires.0, fit.objects_most))

pub next_row-hi-requires : goal.next_row-hi-requires
next_row-hi-requires c =
    let starts : (let a = c.args in FirstRow a.links.now (get_or a.counts 2 0) (key_of a.table 0) c.first_row_of-lo.result) = let a = c.args in
    rw c.first_row_of-lo.ensures (rows_start a.links.now (get_or a.counts 2 0) (get_or a.counts 1 0) a.walk.now c.requires.1.marks.ends a.table c.requires.0) in
    let fit : Fits (lent c.requires.1.bytes c.args.objects.now c.args.links.now c.args.counts) = sound_fits (lent c.requires.1.bytes c.args.objects.now c.args.links.now c.args.counts) c.requires.1.is_sound in
    let f = starts in
    (in_order_lem (lent c.requires.1.bytes c.args.objects.now c.args.links.now c.args.counts) (fit), f.within, λ k h. omega (arith, f.below k h))

pub subgraph_size-requires : goal.subgraph_size-requires
subgraph_size-requires c =
    let fit : Fits (lent c.requires.1.bytes c.args.objects.now c.args.links.now c.args.counts) = sound_fits (lent c.requires.1.bytes c.args.objects.now c.args.links.now c.args.counts) c.requires.1.is_sound in
    let starts : (let a = c.args in FirstRow a.links.now (get_or a.counts 2 0) (key_of a.table 0) c.first_row_of-lo.result) = let a = c.args in
    rw c.first_row_of-lo.ensures (rows_start a.links.now (get_or a.counts 2 0) (get_or a.counts 1 0) a.walk.now c.requires.1.marks.ends a.table c.requires.0) in
    (c.next_row-hi.ensures.within, (no_row, c.requires.1), begun_offsets (fit) c.requires.1.marks c.requires.0 (starts) c.requires.2 c.next_row-hi.ensures)

pub returns : goal.returns
returns c b =
    let fit : Fits (lent c.requires.1.bytes c.args.objects.now c.args.links.now c.args.counts) = sound_fits (lent c.requires.1.bytes c.args.objects.now c.args.links.now c.args.counts) c.requires.1.is_sound in
    let starts : (let a = c.args in FirstRow a.links.now (get_or a.counts 2 0) (key_of a.table 0) c.first_row_of-lo.result) = let a = c.args in
    rw c.first_row_of-lo.ensures (rows_start a.links.now (get_or a.counts 2 0) (get_or a.counts 1 0) a.walk.now c.requires.1.marks.ends a.table c.requires.0) in
    begun_bytes c.requires.1.bytes b c.args.objects.now c.args.links.now c.args.counts
    (begun (fit) c.requires.1.marks c.requires.0 (starts) c.requires.2 c.next_row-hi.ensures (c.subgraph_size.ensures c.requires.1.bytes no_row c.requires.1.marks))
