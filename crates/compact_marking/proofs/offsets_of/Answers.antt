-- `compact_marking::offsets_of` meets its contract: the object's rows start where those of the object before it end. Assumes nothing.
use mathlib.Core.Path.{sym, subst}
use native.Mathlib.Omega.{arith}
use lib.ListN.{get_or}
use Rattle.store_rules.specs.Store.{Store, lent}
use Rattle.store_rules.proofs.Sound.{Fits, sound_fits}
use Rattle.store_reader.specs.Rows.{key_of, FirstRow}
use Rattle.store_reader.proofs.Rows.{in_order_lem, rows_rise}
use Rattle.store_walk.proofs.Ends.{rows_start}
use Rattle.compact_marking.proofs.offsets_of.Goals as goal

pub first_row_of-first-requires : goal.first_row_of-first-requires
first_row_of-first-requires c =
    let store : Store = lent c.requires.by_index.0 c.requires.by_index.1 c.args.links.now c.args.counts in
    let fits : Fits (store) = sound_fits (store) c.requires.by_index.2 in
    (omega (arith, c.requires.object_bound.0, c.requires.object_bound.1), omega (arith, c.requires.object_bound.0, fits.objects_most))

pub next_row-after-requires : goal.next_row-after-requires
next_row-after-requires c =
    let starts : (let a = c.args in FirstRow a.links.now (get_or a.counts 2 0) (key_of a.object 0) c.first_row_of-first.result) = let a = c.args in
    subst (FirstRow a.links.now (get_or a.counts 2 0) (key_of a.object 0)) (sym c.first_row_of-first.ensures)
    (rows_start a.links.now (get_or a.counts 2 0) (get_or a.counts 1 0) a.walk.now c.requires.object_bound.2 a.object c.requires.object_bound.0) in
    let store : Store = lent c.requires.by_index.0 c.requires.by_index.1 c.args.links.now c.args.counts in
    let fits : Fits (store) = sound_fits (store) c.requires.by_index.2 in
    let f = starts in
    (in_order_lem (store) (fits), f.within, λ k h. omega (arith, f.below k h))

pub returns : goal.returns
returns c =
    let starts : (let a = c.args in FirstRow a.links.now (get_or a.counts 2 0) (key_of a.object 0) c.first_row_of-first.result) = let a = c.args in
    subst (FirstRow a.links.now (get_or a.counts 2 0) (key_of a.object 0)) (sym c.first_row_of-first.ensures)
    (rows_start a.links.now (get_or a.counts 2 0) (get_or a.counts 1 0) a.walk.now c.requires.object_bound.2 a.object c.requires.object_bound.0) in
    let f = starts in
    record { first = f; after = c.next_row-after.ensures; rise = rows_rise f c.next_row-after.ensures (omega arith) }
