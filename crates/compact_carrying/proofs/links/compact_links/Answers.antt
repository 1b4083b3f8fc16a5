-- `links::compact_links` meets its contract: the links that stay are written, and what lies behind them is zero. Assumes nothing.
use mathlib.Core.List.{[]}
use native.Mathlib.Omega.{arith}
use Rattle.buffers.proofs.Putting.{filled}
use Rattle.store_rules.specs.Store.{lent}
use Rattle.compact_carrying.proofs.Sifting.{Linked, linked}
use Rattle.compact_carrying.proofs.Wiping.{links_left_lem, links_asked}
use Rattle.compact_carrying.proofs.links.compact_links.Goals as goal

pub overflow_mul-kept : goal.overflow_mul-kept
overflow_mul-kept c =
    let fits : Linked (lent [] [] c.args.links.now c.args.counts) = linked c.requires.by_index.0 c.requires.by_index.1 c.args.links.now c.args.counts c.requires.by_index.2 in
    let (a, b) = links_asked _ _ (fits) c.pack_links-kept.ensures in
    omega (arith, fits.rows_in, fits.rows_most)

pub overflow_cast-counts : goal.overflow_cast-counts
overflow_cast-counts c =
    let fits : Linked (lent [] [] c.args.links.now c.args.counts) = linked c.requires.by_index.0 c.requires.by_index.1 c.args.links.now c.args.counts c.requires.by_index.2 in
    let (a, b) = links_asked _ _ (fits) c.pack_links-kept.ensures in
    omega (arith, fits.rows_in, fits.rows_most)

pub overflow_mul-counts : goal.overflow_mul-counts
overflow_mul-counts c =
    let fits : Linked (lent [] [] c.args.links.now c.args.counts) = linked c.requires.by_index.0 c.requires.by_index.1 c.args.links.now c.args.counts c.requires.by_index.2 in
    let (a, b) = links_asked _ _ (fits) c.pack_links-kept.ensures in
    omega (arith, fits.rows_in, fits.rows_most)

pub slice_bounds-fill-count : goal.slice_bounds-fill-count
slice_bounds-fill-count c =
    let fits : Linked (lent [] [] c.args.links.now c.args.counts) = linked c.requires.by_index.0 c.requires.by_index.1 c.args.links.now c.args.counts c.requires.by_index.2 in
    let (a, b) = links_asked _ _ (fits) c.pack_links-kept.ensures in
    omega (arith, fits.rows_in, fits.rows_most)

pub slice_bounds-fill-start : goal.slice_bounds-fill-start
slice_bounds-fill-start c =
    let fits : Linked (lent [] [] c.args.links.now c.args.counts) = linked c.requires.by_index.0 c.requires.by_index.1 c.args.links.now c.args.counts c.requires.by_index.2 in
    let (a, b) = links_asked _ _ (fits) c.pack_links-kept.ensures in
    omega (arith, fits.rows_in, fits.rows_most)

pub slice_bounds-fill-end : goal.slice_bounds-fill-end
slice_bounds-fill-end c =
    let fits : Linked (lent [] [] c.args.links.now c.args.counts) = linked c.requires.by_index.0 c.requires.by_index.1 c.args.links.now c.args.counts c.requires.by_index.2 in
    let (a, b) = links_asked _ _ (fits) c.pack_links-kept.ensures in
    omega (arith, fits.rows_in, fits.rows_most)

pub returns : goal.returns
returns c =
    let fits : Linked (lent [] [] c.args.links.now c.args.counts) = linked c.requires.by_index.0 c.requires.by_index.1 c.args.links.now c.args.counts c.requires.by_index.2 in
    let (a, b) = links_asked _ _ (fits) c.pack_links-kept.ensures in
    links_left_lem _ _ (fits) c.pack_links-kept.ensures (filled _ _ _ (omega (arith, fits.rows_most)) (omega (arith, fits.rows_in)) 0 (c.fill.ensures.after (λ y e. e)))
