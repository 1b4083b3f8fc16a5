-- `store_walk::subgraph_size` meets its contract: found are objects that had the mark or can be reached, and what an object with the mark leads to was found
-- or is still to come. The measure is the objects that have not the mark, and the rows left of the one before them. Assumes nothing.
use Prim.Native.Nat.{ℕ, ◌+◌, ◌-◌, ◌*◌, ◌<◌, ◌≤◌, max}
use mathlib.Core.Bool.{cond}
use mathlib.Core.Path.{◌≡◌, ap}
use native.Mathlib.Omega.{arith}
use lib.Dec.{ltb}
use lib.ListN.{length, get_or, set, length-set}
use borrow.Author.Tests.{eqb-true}
use Rattle.folds.specs.Folds.{sum}
use Rattle.folds.proofs.Tally.{count}
use Rattle.store_rules.specs.Store.{lent}
use Rattle.store_rules.proofs.Sound.{Fits, sound_fits, sizes_most}
use Rattle.store_reader.specs.Rows.{key_of, FirstRow}
use Rattle.store_walk.proofs.Ends.{rows_start}
use Rattle.store_walk.proofs.Marks.{marks_closed, walked, marks_bytes_lem, walked_bytes}
use Rattle.store_walk.proofs.Turns.{Inv, Used, used, child_at_row, IsOffset, size_at, unread, start, skip, rowless, leaf, leaf_unread, push, push_unread}
use Rattle.store_walk.proofs.Turns.{pop, pop_ends, pop_unread, top_used, top_high, top_few, done, total_most, falls, falls_row}
use Rattle.store_walk.proofs.subgraph_size.Goals as goal

pub loop-row-init : goal.loop-row-init
loop-row-init c =
    let fit : Fits (lent c.requires.1.1.bytes c.args.objects.now c.args.links.now c.args.counts) = sound_fits (lent c.requires.1.1.bytes c.args.objects.now c.args.links.now c.args.counts) c.requires.1.1.is_sound in
    start c.requires.1.1.marks.latest c.requires.0 (marks_closed (fit) c.requires.1.1.marks)

pub overflow_mul-kind : goal.overflow_mul-kind
overflow_mul-kind c =
    let fit : Fits (lent c.requires.1.1.bytes c.args.objects.now c.args.links.now c.args.counts) = sound_fits (lent c.requires.1.1.bytes c.args.objects.now c.args.links.now c.args.counts) c.requires.1.1.is_sound in
    omega (arith, fit.links_most)

pub overflow_add-kind : goal.overflow_add-kind
overflow_add-kind c =
    let fit : Fits (lent c.requires.1.1.bytes c.args.objects.now c.args.links.now c.args.counts) = sound_fits (lent c.requires.1.1.bytes c.args.objects.now c.args.links.now c.args.counts) c.requires.1.1.is_sound in
    omega (arith, fit.links_most)

pub offset_bounds-links-row : goal.offset_bounds-links-row
offset_bounds-links-row c =
    let fit : Fits (lent c.requires.1.1.bytes c.args.objects.now c.args.links.now c.args.counts) = sound_fits (lent c.requires.1.1.bytes c.args.objects.now c.args.links.now c.args.counts) c.requires.1.1.is_sound in
    omega (arith, fit.links_most)

pub bounds-links-row : goal.bounds-links-row
bounds-links-row c =
    let fit : Fits (lent c.requires.1.1.bytes c.args.objects.now c.args.links.now c.args.counts) = sound_fits (lent c.requires.1.1.bytes c.args.objects.now c.args.links.now c.args.counts) c.requires.1.1.is_sound in
    omega (arith, fit.links_in)

pub overflow_mul-child : goal.overflow_mul-child
overflow_mul-child c =
    let fit : Fits (lent c.requires.1.1.bytes c.args.objects.now c.args.links.now c.args.counts) = sound_fits (lent c.requires.1.1.bytes c.args.objects.now c.args.links.now c.args.counts) c.requires.1.1.is_sound in
    omega (arith, fit.links_most)

pub overflow_add-child : goal.overflow_add-child
overflow_add-child c =
    let fit : Fits (lent c.requires.1.1.bytes c.args.objects.now c.args.links.now c.args.counts) = sound_fits (lent c.requires.1.1.bytes c.args.objects.now c.args.links.now c.args.counts) c.requires.1.1.is_sound in
    omega (arith, fit.links_most)

pub offset_bounds-links-row-then-row-stop : goal.offset_bounds-links-row-then-row-stop
offset_bounds-links-row-then-row-stop c =
    let fit : Fits (lent c.requires.1.1.bytes c.args.objects.now c.args.links.now c.args.counts) = sound_fits (lent c.requires.1.1.bytes c.args.objects.now c.args.links.now c.args.counts) c.requires.1.1.is_sound in
    omega (arith, fit.links_most)

pub bounds-links-row-then-row-stop : goal.bounds-links-row-then-row-stop
bounds-links-row-then-row-stop c =
    let fit : Fits (lent c.requires.1.1.bytes c.args.objects.now c.args.links.now c.args.counts) = sound_fits (lent c.requires.1.1.bytes c.args.objects.now c.args.links.now c.args.counts) c.requires.1.1.is_sound in
    omega (arith, fit.links_in)

pub overflow_cast-c : goal.overflow_cast-c
overflow_cast-c c =
    let fit : Fits (lent c.requires.1.1.bytes c.args.objects.now c.args.links.now c.args.counts) = sound_fits (lent c.requires.1.1.bytes c.args.objects.now c.args.links.now c.args.counts) c.requires.1.1.is_sound in
    let use-of : Used c.args.links.now (get_or c.args.counts 2 0) (get_or c.args.counts 1 0) = used (lent c.requires.1.1.bytes c.args.objects.now c.args.links.now c.args.counts) (fit) in
    let child : child_at_row c.args.links.now c.loop-row.row < get_or c.args.counts 1 0 = use-of.children c.loop-row.row (omega arith) in
    omega (arith, child)

pub overflow_add-row : goal.overflow_add-row
overflow_add-row c =
    let fit : Fits (lent c.requires.1.1.bytes c.args.objects.now c.args.links.now c.args.counts) = sound_fits (lent c.requires.1.1.bytes c.args.objects.now c.args.links.now c.args.counts) c.requires.1.1.is_sound in
    omega (arith, fit.links_most)

pub offset_bounds-walk-c : goal.offset_bounds-walk-c
offset_bounds-walk-c c =
    let fit : Fits (lent c.requires.1.1.bytes c.args.objects.now c.args.links.now c.args.counts) = sound_fits (lent c.requires.1.1.bytes c.args.objects.now c.args.links.now c.args.counts) c.requires.1.1.is_sound in
    let use-of : Used c.args.links.now (get_or c.args.counts 2 0) (get_or c.args.counts 1 0) = used (lent c.requires.1.1.bytes c.args.objects.now c.args.links.now c.args.counts) (fit) in
    let child : child_at_row c.args.links.now c.loop-row.row < get_or c.args.counts 1 0 = use-of.children c.loop-row.row (omega arith) in
    omega (arith, child, fit.objects_most)

pub bounds-walk-c : goal.bounds-walk-c
bounds-walk-c c =
    let fit : Fits (lent c.requires.1.1.bytes c.args.objects.now c.args.links.now c.args.counts) = sound_fits (lent c.requires.1.1.bytes c.args.objects.now c.args.links.now c.args.counts) c.requires.1.1.is_sound in
    let use-of : Used c.args.links.now (get_or c.args.counts 2 0) (get_or c.args.counts 1 0) = used (lent c.requires.1.1.bytes c.args.objects.now c.args.links.now c.args.counts) (fit) in
    let child : child_at_row c.args.links.now c.loop-row.row < get_or c.args.counts 1 0 = use-of.children c.loop-row.row (omega arith) in
    omega (arith, child)

pub has_no_rows-requires : goal.has_no_rows-requires
has_no_rows-requires c =
    let fit : Fits (lent c.requires.1.1.bytes c.args.objects.now c.args.links.now c.args.counts) = sound_fits (lent c.requires.1.1.bytes c.args.objects.now c.args.links.now c.args.counts) c.requires.1.1.is_sound in
    let use-of : Used c.args.links.now (get_or c.args.counts 2 0) (get_or c.args.counts 1 0) = used (lent c.requires.1.1.bytes c.args.objects.now c.args.links.now c.args.counts) (fit) in
    let child : child_at_row c.args.links.now c.loop-row.row < get_or c.args.counts 1 0 = use-of.children c.loop-row.row (omega arith) in
    (omega (arith, child, c.loop-row.invariant.long, c.requires.1.1.marks.room), omega (arith, child, fit.objects_most))

pub size_of-size-requires : goal.size_of-size-requires
size_of-size-requires c =
    let fit : Fits (lent c.requires.1.1.bytes c.args.objects.now c.args.links.now c.args.counts) = sound_fits (lent c.requires.1.1.bytes c.args.objects.now c.args.links.now c.args.counts) c.requires.1.1.is_sound in
    let use-of : Used c.args.links.now (get_or c.args.counts 2 0) (get_or c.args.counts 1 0) = used (lent c.requires.1.1.bytes c.args.objects.now c.args.links.now c.args.counts) (fit) in
    let child : child_at_row c.args.links.now c.loop-row.row < get_or c.args.counts 1 0 = use-of.children c.loop-row.row (omega arith) in
    let sized : (let x = c.args in let o = x.objects.now in let d = child_at_row x.links.now c.loop-row.row in (2 * d + 1 < length o) × (get_or o (2 * d) 0 ≤ get_or o (2 * d + 1) 0)) = let f = fit in
    (omega (arith, f.objects_in, child), (f.object (child_at_row c.args.links.now c.loop-row.row) (child)).ordered) in
    sized

pub overflow_add-sum : goal.overflow_add-sum
overflow_add-sum c =
    let fit : Fits (lent c.requires.1.1.bytes c.args.objects.now c.args.links.now c.args.counts) = sound_fits (lent c.requires.1.1.bytes c.args.objects.now c.args.links.now c.args.counts) c.requires.1.1.is_sound in
    let use-of : Used c.args.links.now (get_or c.args.counts 2 0) (get_or c.args.counts 1 0) = used (lent c.requires.1.1.bytes c.args.objects.now c.args.links.now c.args.counts) (fit) in
    let own : IsOffset c.args.links.now c.loop-row.row = c.if-kind-eq0.true in
    let child : child_at_row c.args.links.now c.loop-row.row < get_or c.args.counts 1 0 = use-of.children c.loop-row.row (omega arith) in
    let marked : (let x = c.args in let d = child_at_row x.links.now c.loop-row.row in Inv x.objects.now x.links.now (get_or x.counts 1 0) (get_or x.counts 2 0) x.lo x.hi x.epoch x.walk.now (set c.loop-row.walk d (max (get_or c.loop-row.walk d 0) x.epoch)) (c.loop-row.sum + cond (ltb (get_or c.loop-row.walk d 0) x.epoch) (size_at x.objects.now d) 0) (c.loop-row.row + 1) c.loop-row.stop c.loop-row.top) = leaf c.requires.1.1.marks.latest c.loop-row.invariant (use-of) c.requires.1.1.marks.room c.if-row-stop.true (own)
    (rowless c.requires.1.1.marks.latest c.loop-row.invariant (use-of) c.requires.1.1.marks.ends (child) (eqb-true _ _ (rw c.has_no_rows.ensures at c.if-has_no_rows.true))) in
    let sizes : sum (size_at c.args.objects.now) (get_or c.args.counts 1 0) ≤ 16777216 = sizes_most (lent c.requires.1.1.bytes c.args.objects.now c.args.links.now c.args.counts) (fit) in
    let adds : (let x = c.args in let d = child_at_row x.links.now c.loop-row.row in c.added.result ≡ cond (ltb (get_or c.loop-row.walk d 0) x.epoch) (size_at x.objects.now d) 0) = rw c.size_of-size.ensures at c.added.ensures in
    omega (arith, total_most c.requires.1.1.marks.latest (marked) (sizes), adds)

pub offset_bounds-walk-c-then-has_no_rows : goal.offset_bounds-walk-c-then-has_no_rows
offset_bounds-walk-c-then-has_no_rows c =
    let fit : Fits (lent c.requires.1.1.bytes c.args.objects.now c.args.links.now c.args.counts) = sound_fits (lent c.requires.1.1.bytes c.args.objects.now c.args.links.now c.args.counts) c.requires.1.1.is_sound in
    let use-of : Used c.args.links.now (get_or c.args.counts 2 0) (get_or c.args.counts 1 0) = used (lent c.requires.1.1.bytes c.args.objects.now c.args.links.now c.args.counts) (fit) in
    let child : child_at_row c.args.links.now c.loop-row.row < get_or c.args.counts 1 0 = use-of.children c.loop-row.row (omega arith) in
    omega (arith, child, fit.objects_most)

pub bounds-walk-c-then-has_no_rows : goal.bounds-walk-c-then-has_no_rows
bounds-walk-c-then-has_no_rows c =
    let fit : Fits (lent c.requires.1.1.bytes c.args.objects.now c.args.links.now c.args.counts) = sound_fits (lent c.requires.1.1.bytes c.args.objects.now c.args.links.now c.args.counts) c.requires.1.1.is_sound in
    let use-of : Used c.args.links.now (get_or c.args.counts 2 0) (get_or c.args.counts 1 0) = used (lent c.requires.1.1.bytes c.args.objects.now c.args.links.now c.args.counts) (fit) in
    let child : child_at_row c.args.links.now c.loop-row.row < get_or c.args.counts 1 0 = use-of.children c.loop-row.row (omega arith) in
    omega (arith, child)

pub loop-row-smaller-then-has_no_rows : goal.loop-row-smaller-then-has_no_rows
loop-row-smaller-then-has_no_rows c =
    let fit : Fits (lent c.requires.1.1.bytes c.args.objects.now c.args.links.now c.args.counts) = sound_fits (lent c.requires.1.1.bytes c.args.objects.now c.args.links.now c.args.counts) c.requires.1.1.is_sound in
    let use-of : Used c.args.links.now (get_or c.args.counts 2 0) (get_or c.args.counts 1 0) = used (lent c.requires.1.1.bytes c.args.objects.now c.args.links.now c.args.counts) (fit) in
    let own : IsOffset c.args.links.now c.loop-row.row = c.if-kind-eq0.true in
    let x = c.args in
    let p = c.requires.1.1.marks in
    rw c.later.ensures
    (falls_row (get_or x.counts 2 0) _ _ c.loop-row.row c.loop-row.stop (leaf_unread p.latest c.loop-row.invariant (use-of) p.room c.if-row-stop.true (own)) c.if-row-stop.true)

pub loop-row-preserved-then-has_no_rows : goal.loop-row-preserved-then-has_no_rows
loop-row-preserved-then-has_no_rows c =
    let adds : (let x = c.args in let d = child_at_row x.links.now c.loop-row.row in c.added.result ≡ cond (ltb (get_or c.loop-row.walk d 0) x.epoch) (size_at x.objects.now d) 0) = rw c.size_of-size.ensures at c.added.ensures in
    let fit : Fits (lent c.requires.1.1.bytes c.args.objects.now c.args.links.now c.args.counts) = sound_fits (lent c.requires.1.1.bytes c.args.objects.now c.args.links.now c.args.counts) c.requires.1.1.is_sound in
    let use-of : Used c.args.links.now (get_or c.args.counts 2 0) (get_or c.args.counts 1 0) = used (lent c.requires.1.1.bytes c.args.objects.now c.args.links.now c.args.counts) (fit) in
    let own : IsOffset c.args.links.now c.loop-row.row = c.if-kind-eq0.true in
    let child : child_at_row c.args.links.now c.loop-row.row < get_or c.args.counts 1 0 = use-of.children c.loop-row.row (omega arith) in
    let marked : (let x = c.args in let d = child_at_row x.links.now c.loop-row.row in Inv x.objects.now x.links.now (get_or x.counts 1 0) (get_or x.counts 2 0) x.lo x.hi x.epoch x.walk.now (set c.loop-row.walk d (max (get_or c.loop-row.walk d 0) x.epoch)) (c.loop-row.sum + cond (ltb (get_or c.loop-row.walk d 0) x.epoch) (size_at x.objects.now d) 0) (c.loop-row.row + 1) c.loop-row.stop c.loop-row.top) = leaf c.requires.1.1.marks.latest c.loop-row.invariant (use-of) c.requires.1.1.marks.room c.if-row-stop.true (own)
    (rowless c.requires.1.1.marks.latest c.loop-row.invariant (use-of) c.requires.1.1.marks.ends (child) (eqb-true _ _ (rw c.has_no_rows.ensures at c.if-has_no_rows.true))) in
    rw (adds, c.later.ensures) (marked)

pub overflow_add-walk : goal.overflow_add-walk
overflow_add-walk c = omega (arith, c.requires.1.1.early)

pub overflow_add-walk-then-mark-epoch : goal.overflow_add-walk-then-mark-epoch
overflow_add-walk-then-mark-epoch c =
    let fit : Fits (lent c.requires.1.1.bytes c.args.objects.now c.args.links.now c.args.counts) = sound_fits (lent c.requires.1.1.bytes c.args.objects.now c.args.links.now c.args.counts) c.requires.1.1.is_sound in
    let use-of : Used c.args.links.now (get_or c.args.counts 2 0) (get_or c.args.counts 1 0) = used (lent c.requires.1.1.bytes c.args.objects.now c.args.links.now c.args.counts) (fit) in
    omega (arith, c.requires.1.1.early, top_few c.requires.1.1.marks.latest c.loop-row.invariant (use-of), fit.objects_most)

pub offset_bounds-walk-c-then-mark-epoch : goal.offset_bounds-walk-c-then-mark-epoch
offset_bounds-walk-c-then-mark-epoch c =
    let fit : Fits (lent c.requires.1.1.bytes c.args.objects.now c.args.links.now c.args.counts) = sound_fits (lent c.requires.1.1.bytes c.args.objects.now c.args.links.now c.args.counts) c.requires.1.1.is_sound in
    let use-of : Used c.args.links.now (get_or c.args.counts 2 0) (get_or c.args.counts 1 0) = used (lent c.requires.1.1.bytes c.args.objects.now c.args.links.now c.args.counts) (fit) in
    let child : child_at_row c.args.links.now c.loop-row.row < get_or c.args.counts 1 0 = use-of.children c.loop-row.row (omega arith) in
    omega (arith, child, fit.objects_most)

pub bounds-walk-c-then-mark-epoch : goal.bounds-walk-c-then-mark-epoch
bounds-walk-c-then-mark-epoch c =
    let fit : Fits (lent c.requires.1.1.bytes c.args.objects.now c.args.links.now c.args.counts) = sound_fits (lent c.requires.1.1.bytes c.args.objects.now c.args.links.now c.args.counts) c.requires.1.1.is_sound in
    let use-of : Used c.args.links.now (get_or c.args.counts 2 0) (get_or c.args.counts 1 0) = used (lent c.requires.1.1.bytes c.args.objects.now c.args.links.now c.args.counts) (fit) in
    let child : child_at_row c.args.links.now c.loop-row.row < get_or c.args.counts 1 0 = use-of.children c.loop-row.row (omega arith) in
    omega (arith, child)

pub overflow_add-top : goal.overflow_add-top
overflow_add-top c =
    let fit : Fits (lent c.requires.1.1.bytes c.args.objects.now c.args.links.now c.args.counts) = sound_fits (lent c.requires.1.1.bytes c.args.objects.now c.args.links.now c.args.counts) c.requires.1.1.is_sound in
    let use-of : Used c.args.links.now (get_or c.args.counts 2 0) (get_or c.args.counts 1 0) = used (lent c.requires.1.1.bytes c.args.objects.now c.args.links.now c.args.counts) (fit) in
    let child : child_at_row c.args.links.now c.loop-row.row < get_or c.args.counts 1 0 = use-of.children c.loop-row.row (omega arith) in
    omega (arith, child, fit.objects_most)

pub size_of-requires : goal.size_of-requires
size_of-requires c =
    let fit : Fits (lent c.requires.1.1.bytes c.args.objects.now c.args.links.now c.args.counts) = sound_fits (lent c.requires.1.1.bytes c.args.objects.now c.args.links.now c.args.counts) c.requires.1.1.is_sound in
    let use-of : Used c.args.links.now (get_or c.args.counts 2 0) (get_or c.args.counts 1 0) = used (lent c.requires.1.1.bytes c.args.objects.now c.args.links.now c.args.counts) (fit) in
    let child : child_at_row c.args.links.now c.loop-row.row < get_or c.args.counts 1 0 = use-of.children c.loop-row.row (omega arith) in
    let sized : (let x = c.args in let o = x.objects.now in let d = child_at_row x.links.now c.loop-row.row in (2 * d + 1 < length o) × (get_or o (2 * d) 0 ≤ get_or o (2 * d + 1) 0)) = let f = fit in
    (omega (arith, f.objects_in, child), (f.object (child_at_row c.args.links.now c.loop-row.row) (child)).ordered) in
    sized

pub overflow_add-sum-then-mark-epoch : goal.overflow_add-sum-then-mark-epoch
overflow_add-sum-then-mark-epoch c =
    let fit : Fits (lent c.requires.1.1.bytes c.args.objects.now c.args.links.now c.args.counts) = sound_fits (lent c.requires.1.1.bytes c.args.objects.now c.args.links.now c.args.counts) c.requires.1.1.is_sound in
    let use-of : Used c.args.links.now (get_or c.args.counts 2 0) (get_or c.args.counts 1 0) = used (lent c.requires.1.1.bytes c.args.objects.now c.args.links.now c.args.counts) (fit) in
    let own : IsOffset c.args.links.now c.loop-row.row = c.if-kind-eq0.true in
    let entered : (let x = c.args in let d = child_at_row x.links.now c.loop-row.row in Inv x.objects.now x.links.now (get_or x.counts 1 0) (get_or x.counts 2 0) x.lo x.hi x.epoch x.walk.now (set c.loop-row.walk d (x.epoch + 1 + c.loop-row.top)) (c.loop-row.sum + size_at x.objects.now d) (c.loop-row.row + 1) c.loop-row.stop (d + 1)) = push c.requires.1.1.marks.latest c.loop-row.invariant (use-of) c.requires.1.1.marks.room c.if-row-stop.true (own) c.if-mark-epoch.true in
    let sizes : sum (size_at c.args.objects.now) (get_or c.args.counts 1 0) ≤ 16777216 = sizes_most (lent c.requires.1.1.bytes c.args.objects.now c.args.links.now c.args.counts) (fit) in
    omega (arith, total_most c.requires.1.1.marks.latest (entered) (sizes), c.size_of.ensures)

pub loop-row-smaller-then-mark-epoch : goal.loop-row-smaller-then-mark-epoch
loop-row-smaller-then-mark-epoch c =
    let fit : Fits (lent c.requires.1.1.bytes c.args.objects.now c.args.links.now c.args.counts) = sound_fits (lent c.requires.1.1.bytes c.args.objects.now c.args.links.now c.args.counts) c.requires.1.1.is_sound in
    let use-of : Used c.args.links.now (get_or c.args.counts 2 0) (get_or c.args.counts 1 0) = used (lent c.requires.1.1.bytes c.args.objects.now c.args.links.now c.args.counts) (fit) in
    let own : IsOffset c.args.links.now c.loop-row.row = c.if-kind-eq0.true in
    let m = get_or c.args.counts 2 0 in
    omega (arith, ap (λ (x : ℕ). x * (m + 1)) (push_unread c.requires.1.1.marks.latest c.loop-row.invariant (use-of) c.requires.1.1.marks.room c.if-row-stop.true (own) c.if-mark-epoch.true))

pub loop-row-preserved-then-mark-epoch : goal.loop-row-preserved-then-mark-epoch
loop-row-preserved-then-mark-epoch c =
    let fit : Fits (lent c.requires.1.1.bytes c.args.objects.now c.args.links.now c.args.counts) = sound_fits (lent c.requires.1.1.bytes c.args.objects.now c.args.links.now c.args.counts) c.requires.1.1.is_sound in
    let use-of : Used c.args.links.now (get_or c.args.counts 2 0) (get_or c.args.counts 1 0) = used (lent c.requires.1.1.bytes c.args.objects.now c.args.links.now c.args.counts) (fit) in
    let own : IsOffset c.args.links.now c.loop-row.row = c.if-kind-eq0.true in
    let entered : (let x = c.args in let d = child_at_row x.links.now c.loop-row.row in Inv x.objects.now x.links.now (get_or x.counts 1 0) (get_or x.counts 2 0) x.lo x.hi x.epoch x.walk.now (set c.loop-row.walk d (x.epoch + 1 + c.loop-row.top)) (c.loop-row.sum + size_at x.objects.now d) (c.loop-row.row + 1) c.loop-row.stop (d + 1)) = push c.requires.1.1.marks.latest c.loop-row.invariant (use-of) c.requires.1.1.marks.room c.if-row-stop.true (own) c.if-mark-epoch.true in
    rw c.size_of.ensures (entered)

pub loop-row-smaller-else-mark-epoch : goal.loop-row-smaller-else-mark-epoch
loop-row-smaller-else-mark-epoch c = omega arith

pub loop-row-preserved-else-mark-epoch : goal.loop-row-preserved-else-mark-epoch
loop-row-preserved-else-mark-epoch c = skip c.requires.1.1.marks.latest c.loop-row.invariant (λ _. omega arith)

pub loop-row-smaller-else-kind-eq0 : goal.loop-row-smaller-else-kind-eq0
loop-row-smaller-else-kind-eq0 c = omega arith

pub loop-row-preserved-else-kind-eq0 : goal.loop-row-preserved-else-kind-eq0
loop-row-preserved-else-kind-eq0 c = skip c.requires.1.1.marks.latest c.loop-row.invariant (λ z. absurd (c.if-kind-eq0.false z))

pub shape_of-walk-then-top-eq0 : goal.shape_of-walk-then-top-eq0
shape_of-walk-then-top-eq0 c = c.loop-row.invariant.long

pub returns-then-top-eq0 : goal.returns-then-top-eq0
returns-then-top-eq0 c =
    let fit : Fits (lent c.requires.1.1.bytes c.args.objects.now c.args.links.now c.args.counts) = sound_fits (lent c.requires.1.1.bytes c.args.objects.now c.args.links.now c.args.counts) c.requires.1.1.is_sound in
    let use-of : Used c.args.links.now (get_or c.args.counts 2 0) (get_or c.args.counts 1 0) = used (lent c.requires.1.1.bytes c.args.objects.now c.args.links.now c.args.counts) (fit) in
    let o = c.args.objects.now in
    let l = c.args.links.now in
    let k = c.args.counts in
    λ b from v.
    walked_bytes c.requires.1.1.bytes b o l k
    (walked (fit) (marks_bytes_lem b c.requires.1.1.bytes o l k v) (done c.requires.1.1.marks.latest c.loop-row.invariant (use-of) c.requires.0 c.if-row-stop.false c.if-top-eq0.true) c.requires.2)

pub overflow_sub-parent : goal.overflow_sub-parent
overflow_sub-parent c = omega arith

pub overflow_cast-parent : goal.overflow_cast-parent
overflow_cast-parent c =
    let fit : Fits (lent c.requires.1.1.bytes c.args.objects.now c.args.links.now c.args.counts) = sound_fits (lent c.requires.1.1.bytes c.args.objects.now c.args.links.now c.args.counts) c.requires.1.1.is_sound in
    let use-of : Used c.args.links.now (get_or c.args.counts 2 0) (get_or c.args.counts 1 0) = used (lent c.requires.1.1.bytes c.args.objects.now c.args.links.now c.args.counts) (fit) in
    let parent_used_lem : (c.loop-row.top - 1 < get_or c.args.counts 1 0) = let m = c.requires.1.1.marks in
    top_used m.latest c.loop-row.invariant (use-of) m.room (omega arith) in
    omega (arith, parent_used_lem, fit.objects_most)

pub offset_bounds-walk-parent : goal.offset_bounds-walk-parent
offset_bounds-walk-parent c =
    let fit : Fits (lent c.requires.1.1.bytes c.args.objects.now c.args.links.now c.args.counts) = sound_fits (lent c.requires.1.1.bytes c.args.objects.now c.args.links.now c.args.counts) c.requires.1.1.is_sound in
    let use-of : Used c.args.links.now (get_or c.args.counts 2 0) (get_or c.args.counts 1 0) = used (lent c.requires.1.1.bytes c.args.objects.now c.args.links.now c.args.counts) (fit) in
    let parent_used_lem : (c.loop-row.top - 1 < get_or c.args.counts 1 0) = let m = c.requires.1.1.marks in
    top_used m.latest c.loop-row.invariant (use-of) m.room (omega arith) in
    omega (arith, parent_used_lem, fit.objects_most)

pub bounds-walk-parent : goal.bounds-walk-parent
bounds-walk-parent c =
    let fit : Fits (lent c.requires.1.1.bytes c.args.objects.now c.args.links.now c.args.counts) = sound_fits (lent c.requires.1.1.bytes c.args.objects.now c.args.links.now c.args.counts) c.requires.1.1.is_sound in
    let use-of : Used c.args.links.now (get_or c.args.counts 2 0) (get_or c.args.counts 1 0) = used (lent c.requires.1.1.bytes c.args.objects.now c.args.links.now c.args.counts) (fit) in
    let parent_used_lem : (c.loop-row.top - 1 < get_or c.args.counts 1 0) = let m = c.requires.1.1.marks in
    top_used m.latest c.loop-row.invariant (use-of) m.room (omega arith) in
    omega (arith, parent_used_lem)

pub overflow_sub-top : goal.overflow_sub-top
overflow_sub-top c =
    let fit : Fits (lent c.requires.1.1.bytes c.args.objects.now c.args.links.now c.args.counts) = sound_fits (lent c.requires.1.1.bytes c.args.objects.now c.args.links.now c.args.counts) c.requires.1.1.is_sound in
    let use-of : Used c.args.links.now (get_or c.args.counts 2 0) (get_or c.args.counts 1 0) = used (lent c.requires.1.1.bytes c.args.objects.now c.args.links.now c.args.counts) (fit) in
    let parent-high : (c.args.epoch < get_or c.loop-row.walk (c.loop-row.top - 1) 0) = let m = c.requires.1.1.marks in
    top_high m.latest c.loop-row.invariant (use-of) m.room (omega arith) in
    omega (arith, parent-high)

pub overflow_sub-top-else-row-stop : goal.overflow_sub-top-else-row-stop
overflow_sub-top-else-row-stop c =
    let fit : Fits (lent c.requires.1.1.bytes c.args.objects.now c.args.links.now c.args.counts) = sound_fits (lent c.requires.1.1.bytes c.args.objects.now c.args.links.now c.args.counts) c.requires.1.1.is_sound in
    let use-of : Used c.args.links.now (get_or c.args.counts 2 0) (get_or c.args.counts 1 0) = used (lent c.requires.1.1.bytes c.args.objects.now c.args.links.now c.args.counts) (fit) in
    let parent-high : (c.args.epoch < get_or c.loop-row.walk (c.loop-row.top - 1) 0) = let m = c.requires.1.1.marks in
    top_high m.latest c.loop-row.invariant (use-of) m.room (omega arith) in
    omega (arith, parent-high)

pub offset_bounds-walk-parent-else-row-stop : goal.offset_bounds-walk-parent-else-row-stop
offset_bounds-walk-parent-else-row-stop c =
    let fit : Fits (lent c.requires.1.1.bytes c.args.objects.now c.args.links.now c.args.counts) = sound_fits (lent c.requires.1.1.bytes c.args.objects.now c.args.links.now c.args.counts) c.requires.1.1.is_sound in
    let use-of : Used c.args.links.now (get_or c.args.counts 2 0) (get_or c.args.counts 1 0) = used (lent c.requires.1.1.bytes c.args.objects.now c.args.links.now c.args.counts) (fit) in
    let parent_used_lem : (c.loop-row.top - 1 < get_or c.args.counts 1 0) = let m = c.requires.1.1.marks in
    top_used m.latest c.loop-row.invariant (use-of) m.room (omega arith) in
    omega (arith, parent_used_lem, fit.objects_most)

pub bounds-walk-parent-else-row-stop : goal.bounds-walk-parent-else-row-stop
bounds-walk-parent-else-row-stop c =
    let fit : Fits (lent c.requires.1.1.bytes c.args.objects.now c.args.links.now c.args.counts) = sound_fits (lent c.requires.1.1.bytes c.args.objects.now c.args.links.now c.args.counts) c.requires.1.1.is_sound in
    let use-of : Used c.args.links.now (get_or c.args.counts 2 0) (get_or c.args.counts 1 0) = used (lent c.requires.1.1.bytes c.args.objects.now c.args.links.now c.args.counts) (fit) in
    let parent_used_lem : (c.loop-row.top - 1 < get_or c.args.counts 1 0) = let m = c.requires.1.1.marks in
    top_used m.latest c.loop-row.invariant (use-of) m.room (omega arith) in
    omega (arith, parent_used_lem)

pub first_row_of-row-requires : goal.first_row_of-row-requires
first_row_of-row-requires c =
    let fit : Fits (lent c.requires.1.1.bytes c.args.objects.now c.args.links.now c.args.counts) = sound_fits (lent c.requires.1.1.bytes c.args.objects.now c.args.links.now c.args.counts) c.requires.1.1.is_sound in
    let use-of : Used c.args.links.now (get_or c.args.counts 2 0) (get_or c.args.counts 1 0) = used (lent c.requires.1.1.bytes c.args.objects.now c.args.links.now c.args.counts) (fit) in
    let parent_used_lem : (c.loop-row.top - 1 < get_or c.args.counts 1 0) = let m = c.requires.1.1.marks in
    top_used m.latest c.loop-row.invariant (use-of) m.room (omega arith) in
    (simp length-set (omega (arith, parent_used_lem, c.loop-row.invariant.long, c.requires.1.1.marks.room)), omega (arith, parent_used_lem, fit.objects_most))

pub overflow_cast-row : goal.overflow_cast-row
overflow_cast-row c =
    let fit : Fits (lent c.requires.1.1.bytes c.args.objects.now c.args.links.now c.args.counts) = sound_fits (lent c.requires.1.1.bytes c.args.objects.now c.args.links.now c.args.counts) c.requires.1.1.is_sound in
    let use-of : Used c.args.links.now (get_or c.args.counts 2 0) (get_or c.args.counts 1 0) = used (lent c.requires.1.1.bytes c.args.objects.now c.args.links.now c.args.counts) (fit) in
    let ends : (let x = c.args in (i : ℕ) → i < get_or x.counts 1 0 → FirstRow x.links.now (get_or x.counts 2 0) (key_of (i + 1) 0) (get_or (set c.loop-row.walk (c.loop-row.top - 1) x.epoch) (get_or x.counts 1 0 + i) 0)) = let m = c.requires.1.1.marks in
    pop_ends m.latest c.loop-row.invariant (use-of) m.room (omega arith) m.ends in
    let parent_used_lem : (c.loop-row.top - 1 < get_or c.args.counts 1 0) = let m = c.requires.1.1.marks in
    top_used m.latest c.loop-row.invariant (use-of) m.room (omega arith) in
    let starts : (let x = c.args in FirstRow x.links.now (get_or x.counts 2 0) (key_of (c.loop-row.top - 1) 0) c.first_row_of-row.result) = let x = c.args in
    rw c.first_row_of-row.ensures
    (rows_start x.links.now (get_or x.counts 2 0) (get_or x.counts 1 0) (set c.loop-row.walk (c.loop-row.top - 1) x.epoch) (ends) (c.loop-row.top - 1) (parent_used_lem)) in
    omega (arith, starts.within, fit.links_most)

pub overflow_add-stop : goal.overflow_add-stop
overflow_add-stop c =
    let fit : Fits (lent c.requires.1.1.bytes c.args.objects.now c.args.links.now c.args.counts) = sound_fits (lent c.requires.1.1.bytes c.args.objects.now c.args.links.now c.args.counts) c.requires.1.1.is_sound in
    let use-of : Used c.args.links.now (get_or c.args.counts 2 0) (get_or c.args.counts 1 0) = used (lent c.requires.1.1.bytes c.args.objects.now c.args.links.now c.args.counts) (fit) in
    let parent_used_lem : (c.loop-row.top - 1 < get_or c.args.counts 1 0) = let m = c.requires.1.1.marks in
    top_used m.latest c.loop-row.invariant (use-of) m.room (omega arith) in
    omega (arith, parent_used_lem, fit.objects_most)

pub offset_bounds-walk-n : goal.offset_bounds-walk-n
offset_bounds-walk-n c =
    let fit : Fits (lent c.requires.1.1.bytes c.args.objects.now c.args.links.now c.args.counts) = sound_fits (lent c.requires.1.1.bytes c.args.objects.now c.args.links.now c.args.counts) c.requires.1.1.is_sound in
    let use-of : Used c.args.links.now (get_or c.args.counts 2 0) (get_or c.args.counts 1 0) = used (lent c.requires.1.1.bytes c.args.objects.now c.args.links.now c.args.counts) (fit) in
    let parent_used_lem : (c.loop-row.top - 1 < get_or c.args.counts 1 0) = let m = c.requires.1.1.marks in
    top_used m.latest c.loop-row.invariant (use-of) m.room (omega arith) in
    omega (arith, parent_used_lem, fit.objects_most)

pub bounds-walk-n : goal.bounds-walk-n
bounds-walk-n c =
    let fit : Fits (lent c.requires.1.1.bytes c.args.objects.now c.args.links.now c.args.counts) = sound_fits (lent c.requires.1.1.bytes c.args.objects.now c.args.links.now c.args.counts) c.requires.1.1.is_sound in
    let use-of : Used c.args.links.now (get_or c.args.counts 2 0) (get_or c.args.counts 1 0) = used (lent c.requires.1.1.bytes c.args.objects.now c.args.links.now c.args.counts) (fit) in
    let parent_used_lem : (c.loop-row.top - 1 < get_or c.args.counts 1 0) = let m = c.requires.1.1.marks in
    top_used m.latest c.loop-row.invariant (use-of) m.room (omega arith) in
    simp length-set (omega (arith, parent_used_lem, c.loop-row.invariant.long, c.requires.1.1.marks.room))

pub overflow_cast-stop : goal.overflow_cast-stop
overflow_cast-stop c =
    let fit : Fits (lent c.requires.1.1.bytes c.args.objects.now c.args.links.now c.args.counts) = sound_fits (lent c.requires.1.1.bytes c.args.objects.now c.args.links.now c.args.counts) c.requires.1.1.is_sound in
    let use-of : Used c.args.links.now (get_or c.args.counts 2 0) (get_or c.args.counts 1 0) = used (lent c.requires.1.1.bytes c.args.objects.now c.args.links.now c.args.counts) (fit) in
    let ends : (let x = c.args in (i : ℕ) → i < get_or x.counts 1 0 → FirstRow x.links.now (get_or x.counts 2 0) (key_of (i + 1) 0) (get_or (set c.loop-row.walk (c.loop-row.top - 1) x.epoch) (get_or x.counts 1 0 + i) 0)) = let m = c.requires.1.1.marks in
    pop_ends m.latest c.loop-row.invariant (use-of) m.room (omega arith) m.ends in
    let parent_used_lem : (c.loop-row.top - 1 < get_or c.args.counts 1 0) = let m = c.requires.1.1.marks in
    top_used m.latest c.loop-row.invariant (use-of) m.room (omega arith) in
    omega (arith, (ends (c.loop-row.top - 1) (parent_used_lem)).within, fit.links_most)

pub loop-row-smaller : goal.loop-row-smaller
loop-row-smaller c =
    let fit : Fits (lent c.requires.1.1.bytes c.args.objects.now c.args.links.now c.args.counts) = sound_fits (lent c.requires.1.1.bytes c.args.objects.now c.args.links.now c.args.counts) c.requires.1.1.is_sound in
    let use-of : Used c.args.links.now (get_or c.args.counts 2 0) (get_or c.args.counts 1 0) = used (lent c.requires.1.1.bytes c.args.objects.now c.args.links.now c.args.counts) (fit) in
    let ends : (let x = c.args in (i : ℕ) → i < get_or x.counts 1 0 → FirstRow x.links.now (get_or x.counts 2 0) (key_of (i + 1) 0) (get_or (set c.loop-row.walk (c.loop-row.top - 1) x.epoch) (get_or x.counts 1 0 + i) 0)) = let m = c.requires.1.1.marks in
    pop_ends m.latest c.loop-row.invariant (use-of) m.room (omega arith) m.ends in
    let parent_used_lem : (c.loop-row.top - 1 < get_or c.args.counts 1 0) = let m = c.requires.1.1.marks in
    top_used m.latest c.loop-row.invariant (use-of) m.room (omega arith) in
    let x = c.args in
    let p = c.requires.1.1.marks in
    let n = get_or x.counts 1 0 in
    let w = set c.loop-row.walk (c.loop-row.top - 1) x.epoch in
    falls (get_or x.counts 2 0) (count (unread x.epoch c.loop-row.walk) n) (count (unread x.epoch w) n) c.first_row_of-row.result (get_or w (n + (c.loop-row.top - 1)) 0) (c.loop-row.stop - c.loop-row.row)
    (pop_unread p.latest c.loop-row.invariant (use-of) p.room (omega arith)) (ends (c.loop-row.top - 1) (parent_used_lem)).within

pub loop-row-preserved : goal.loop-row-preserved
loop-row-preserved c =
    let fit : Fits (lent c.requires.1.1.bytes c.args.objects.now c.args.links.now c.args.counts) = sound_fits (lent c.requires.1.1.bytes c.args.objects.now c.args.links.now c.args.counts) c.requires.1.1.is_sound in
    let use-of : Used c.args.links.now (get_or c.args.counts 2 0) (get_or c.args.counts 1 0) = used (lent c.requires.1.1.bytes c.args.objects.now c.args.links.now c.args.counts) (fit) in
    let ends : (let x = c.args in (i : ℕ) → i < get_or x.counts 1 0 → FirstRow x.links.now (get_or x.counts 2 0) (key_of (i + 1) 0) (get_or (set c.loop-row.walk (c.loop-row.top - 1) x.epoch) (get_or x.counts 1 0 + i) 0)) = let m = c.requires.1.1.marks in
    pop_ends m.latest c.loop-row.invariant (use-of) m.room (omega arith) m.ends in
    let parent_used_lem : (c.loop-row.top - 1 < get_or c.args.counts 1 0) = let m = c.requires.1.1.marks in
    top_used m.latest c.loop-row.invariant (use-of) m.room (omega arith) in
    let starts : (let x = c.args in FirstRow x.links.now (get_or x.counts 2 0) (key_of (c.loop-row.top - 1) 0) c.first_row_of-row.result) = let x = c.args in
    rw c.first_row_of-row.ensures
    (rows_start x.links.now (get_or x.counts 2 0) (get_or x.counts 1 0) (set c.loop-row.walk (c.loop-row.top - 1) x.epoch) (ends) (c.loop-row.top - 1) (parent_used_lem)) in
    let p = c.requires.1.1.marks in
    pop p.latest c.loop-row.invariant (use-of) p.room (omega arith) c.if-row-stop.false (starts) (ends (c.loop-row.top - 1) (parent_used_lem))
