-- `links::pack_links` meets its contract: the links of the rows before k that stay are written, and all rows from k on are as they came. Assumes nothing.
use mathlib.Core.List.{[]}
use native.Mathlib.Omega.{arith}
use Rattle.store_rules.specs.Store.{lent}
use Rattle.compact_carrying.proofs.Sifting.{Linked, linked, sifting_start, sifting_stop, links_long, parent_used_lem, child_used_lem, row_inside, turn_kept, turn_dropped}
use Rattle.compact_carrying.proofs.links.pack_links.Goals as goal
use Rattle.compact_carrying.proofs.links.pack_links.Goals.{then-keeps_ends, else-keeps_ends}

pub loop-k-init : goal.loop-k-init
loop-k-init c =
    let fits : Linked (lent [] [] c.args.links.now c.args.counts) = linked c.requires.by_index.0 c.requires.by_index.1 c.args.links.now c.args.counts c.requires.by_index.2 in
    sifting_start _ _ (fits)

pub overflow_mul-parent : goal.overflow_mul-parent
overflow_mul-parent c =
    let fits : Linked (lent [] [] c.args.links.now c.args.counts) = linked c.requires.by_index.0 c.requires.by_index.1 c.args.links.now c.args.counts c.requires.by_index.2 in
    omega (arith, c.loop-k-test.true, fits.rows_most)

pub overflow_add-parent : goal.overflow_add-parent
overflow_add-parent c =
    let fits : Linked (lent [] [] c.args.links.now c.args.counts) = linked c.requires.by_index.0 c.requires.by_index.1 c.args.links.now c.args.counts c.requires.by_index.2 in
    omega (arith, c.loop-k-test.true, fits.rows_most)

pub offset_bounds-links-k : goal.offset_bounds-links-k
offset_bounds-links-k c =
    let fits : Linked (lent [] [] c.args.links.now c.args.counts) = linked c.requires.by_index.0 c.requires.by_index.1 c.args.links.now c.args.counts c.requires.by_index.2 in
    omega (arith, c.loop-k-test.true, fits.rows_most)

pub bounds-links-k : goal.bounds-links-k
bounds-links-k c =
    let fits : Linked (lent [] [] c.args.links.now c.args.counts) = linked c.requires.by_index.0 c.requires.by_index.1 c.args.links.now c.args.counts c.requires.by_index.2 in
    omega (arith, row_inside _ _ (fits) c.requires.numbered c.loop-k.invariant c.loop-k-test.true)

pub overflow_cast-parent : goal.overflow_cast-parent
overflow_cast-parent c =
    let fits : Linked (lent [] [] c.args.links.now c.args.counts) = linked c.requires.by_index.0 c.requires.by_index.1 c.args.links.now c.args.counts c.requires.by_index.2 in
    omega (arith, parent_used_lem _ _ (fits) c.requires.numbered c.loop-k.invariant c.loop-k-test.true, fits.objects_most)

pub overflow_mul-child : goal.overflow_mul-child
overflow_mul-child c =
    let fits : Linked (lent [] [] c.args.links.now c.args.counts) = linked c.requires.by_index.0 c.requires.by_index.1 c.args.links.now c.args.counts c.requires.by_index.2 in
    omega (arith, c.loop-k-test.true, fits.rows_most)

pub overflow_add-child : goal.overflow_add-child
overflow_add-child c =
    let fits : Linked (lent [] [] c.args.links.now c.args.counts) = linked c.requires.by_index.0 c.requires.by_index.1 c.args.links.now c.args.counts c.requires.by_index.2 in
    omega (arith, c.loop-k-test.true, fits.rows_most)

pub offset_bounds-links-k-in-loop-k : goal.offset_bounds-links-k-in-loop-k
offset_bounds-links-k-in-loop-k c =
    let fits : Linked (lent [] [] c.args.links.now c.args.counts) = linked c.requires.by_index.0 c.requires.by_index.1 c.args.links.now c.args.counts c.requires.by_index.2 in
    omega (arith, c.loop-k-test.true, fits.rows_most)

pub bounds-links-k-in-loop-k : goal.bounds-links-k-in-loop-k
bounds-links-k-in-loop-k c =
    let fits : Linked (lent [] [] c.args.links.now c.args.counts) = linked c.requires.by_index.0 c.requires.by_index.1 c.args.links.now c.args.counts c.requires.by_index.2 in
    omega (arith, row_inside _ _ (fits) c.requires.numbered c.loop-k.invariant c.loop-k-test.true)

pub overflow_cast-child : goal.overflow_cast-child
overflow_cast-child c =
    let fits : Linked (lent [] [] c.args.links.now c.args.counts) = linked c.requires.by_index.0 c.requires.by_index.1 c.args.links.now c.args.counts c.requires.by_index.2 in
    omega (arith, child_used_lem _ _ (fits) c.requires.numbered c.loop-k.invariant c.loop-k-test.true, fits.objects_most)

pub keeps_ends-requires : goal.keeps_ends-requires
keeps_ends-requires c =
    let fits : Linked (lent [] [] c.args.links.now c.args.counts) = linked c.requires.by_index.0 c.requires.by_index.1 c.args.links.now c.args.counts c.requires.by_index.2 in
    let t = c.loop-k-test.true in
    let p = parent_used_lem _ _ (fits) c.requires.numbered c.loop-k.invariant t in
    let q = child_used_lem _ _ (fits) c.requires.numbered c.loop-k.invariant t in
    (omega (arith, c.requires.numbered.long), omega (arith, c.requires.numbered.long))

pub overflow_add-n : goal.overflow_add-n
overflow_add-n c =
    let fits : Linked (lent [] [] c.args.links.now c.args.counts) = linked c.requires.by_index.0 c.requires.by_index.1 c.args.links.now c.args.counts c.requires.by_index.2 in
    omega (arith, parent_used_lem _ _ (fits) c.requires.numbered c.loop-k.invariant c.loop-k-test.true, fits.objects_most)

pub offset_bounds-walk-n : goal.offset_bounds-walk-n
offset_bounds-walk-n c =
    let fits : Linked (lent [] [] c.args.links.now c.args.counts) = linked c.requires.by_index.0 c.requires.by_index.1 c.args.links.now c.args.counts c.requires.by_index.2 in
    omega (arith, parent_used_lem _ _ (fits) c.requires.numbered c.loop-k.invariant c.loop-k-test.true, fits.objects_most)

pub bounds-walk-n : goal.bounds-walk-n
bounds-walk-n c =
    let fits : Linked (lent [] [] c.args.links.now c.args.counts) = linked c.requires.by_index.0 c.requires.by_index.1 c.args.links.now c.args.counts c.requires.by_index.2 in
    omega (arith, parent_used_lem _ _ (fits) c.requires.numbered c.loop-k.invariant c.loop-k-test.true, c.requires.numbered.long)

pub overflow_add-n-then-keeps_ends : goal.overflow_add-n-then-keeps_ends
overflow_add-n-then-keeps_ends c =
    let fits : Linked (lent [] [] c.args.links.now c.args.counts) = linked c.requires.by_index.0 c.requires.by_index.1 c.args.links.now c.args.counts c.requires.by_index.2 in
    omega (arith, child_used_lem _ _ (fits) c.requires.numbered c.loop-k.invariant c.loop-k-test.true, fits.objects_most)

pub offset_bounds-walk-n-then-keeps_ends : goal.offset_bounds-walk-n-then-keeps_ends
offset_bounds-walk-n-then-keeps_ends c =
    let fits : Linked (lent [] [] c.args.links.now c.args.counts) = linked c.requires.by_index.0 c.requires.by_index.1 c.args.links.now c.args.counts c.requires.by_index.2 in
    omega (arith, child_used_lem _ _ (fits) c.requires.numbered c.loop-k.invariant c.loop-k-test.true, fits.objects_most)

pub bounds-walk-n-then-keeps_ends : goal.bounds-walk-n-then-keeps_ends
bounds-walk-n-then-keeps_ends c =
    let fits : Linked (lent [] [] c.args.links.now c.args.counts) = linked c.requires.by_index.0 c.requires.by_index.1 c.args.links.now c.args.counts c.requires.by_index.2 in
    omega (arith, child_used_lem _ _ (fits) c.requires.numbered c.loop-k.invariant c.loop-k-test.true, c.requires.numbered.long)

pub renumber_row-requires : goal.renumber_row-requires
renumber_row-requires c =
    let fits : Linked (lent [] [] c.args.links.now c.args.counts) = linked c.requires.by_index.0 c.requires.by_index.1 c.args.links.now c.args.counts c.requires.by_index.2 in
    let row = row_inside _ _ (fits) c.requires.numbered c.loop-k.invariant c.loop-k-test.true in
    (row, omega (arith, c.loop-k.invariant.low))

pub overflow_add-j : goal.overflow_add-j
overflow_add-j c =
    let fits : Linked (lent [] [] c.args.links.now c.args.counts) = linked c.requires.by_index.0 c.requires.by_index.1 c.args.links.now c.args.counts c.requires.by_index.2 in
    omega (arith, c.loop-k.invariant.low, c.loop-k.invariant.some, fits.rows_most)

pub loop-k-preserved : goal.loop-k-preserved
loop-k-preserved c =
    let fits : Linked (lent [] [] c.args.links.now c.args.counts) = linked c.requires.by_index.0 c.requires.by_index.1 c.args.links.now c.args.counts c.requires.by_index.2 in
    elim c.if-keeps_ends.branch [
      | then-keeps_ends w ↦ rw (w.links-is, w.j-is) (turn_kept _ _ fits c.requires.numbered c.loop-k.invariant c.loop-k-test.true c.keeps_ends.ensures w.if-keeps_ends.true w.renumber_row.ensures)
      | else-keeps_ends w ↦ rw (w.links-is, w.j-is) (turn_dropped _ _ fits c.requires.numbered c.loop-k.invariant c.loop-k-test.true c.keeps_ends.ensures w.if-keeps_ends.false)
    ]

pub overflow_cast-result : goal.overflow_cast-result
overflow_cast-result c =
    let fits : Linked (lent [] [] c.args.links.now c.args.counts) = linked c.requires.by_index.0 c.requires.by_index.1 c.args.links.now c.args.counts c.requires.by_index.2 in
    omega (arith, c.loop-k.invariant.low, c.loop-k.invariant.some, fits.rows_most)

pub shape_of-links : goal.shape_of-links
shape_of-links c =
    let fits : Linked (lent [] [] c.args.links.now c.args.counts) = linked c.requires.by_index.0 c.requires.by_index.1 c.args.links.now c.args.counts c.requires.by_index.2 in
    links_long _ _ (fits) c.loop-k.invariant

pub returns : goal.returns
returns c =
    let fits : Linked (lent [] [] c.args.links.now c.args.counts) = linked c.requires.by_index.0 c.requires.by_index.1 c.args.links.now c.args.counts c.requires.by_index.2 in
    sifting_stop _ _ (fits) c.loop-k.invariant c.loop-k-test.false
