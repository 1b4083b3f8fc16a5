-- `pair_set_points::weigh_set` meets its contract: the slot is empty exactly if it has no row, and the cost and what stands beside the sets
-- are the cut rule's. Assumes nothing.
use Prim.Native.Nat.{◌≤◌, ◌<◌, ◌+◌}
use mathlib.Core.Path.{◌∙◌}
use native.Mathlib.Omega.{arith}
use borrow.Author.Tests.{not-true, not-false}
use Rattle.pair_items.proofs.Turns.{cut_room}
use Rattle.pair_items.proofs.ItemSizes.{at_cut}
use Rattle.pair_set_points.proofs.PairSets.{set-ends, short, partial_most, set_passed, set-added, set_cut}
use mathlib.Core.Path.{ap}
use mathlib.Core.Bool.{not}
use Rattle.pair_set_points.proofs.weigh_set.Goals as goal

pub item_end-end-requires : goal.item_end-end-requires
item_end-end-requires c = omega (arith, (set-ends c.requires.1.2 c.requires.0).1)

pub measure-set-requires : goal.measure-set-requires
measure-set-requires c =
    let inside = c.requires.0 in
    let v = c.requires.1.2 in
    record {
      epoch_bound = (omega (arith, v.table.described.epochs, v.filled.few, inside), omega (arith, c.item_end-end.ensures, (set-ends v inside).1));
      by_index = (c.requires.1.0, _, _, c.args.i, c.item_end-end.ensures ∙ (set-ends v inside).0, v.at);
    }

pub returns-then-not-is_looked_at : goal.returns-then-not-is_looked_at
returns-then-not-is_looked_at c =
    λ b d v.
    set_passed v c.requires.0 (c.measure-set.ensures b _ _ c.args.i (c.item_end-end.ensures ∙ (set-ends v c.requires.0).0) v.at)
    c.is_looked_at.ensures (not-true c.is_looked_at.result (ap not c.if-not-is_looked_at.true))

pub overflow_add-partial : goal.overflow_add-partial
overflow_add-partial c = omega (arith, partial_most c.requires.1.2 c.requires.0)

pub overflow_add-set : goal.overflow_add-set
overflow_add-set c =
    let most : (c.measure-set.result.size ≤ 16777216) =
    (c.measure-set.ensures c.requires.1.0 _ _ c.args.i (c.item_end-end.ensures ∙ (set-ends c.requires.1.2 c.requires.0).0) c.requires.1.2.at).most
    in
    omega (arith, most)

pub is_due-requires : goal.is_due-requires
is_due-requires c =
    let v = c.requires.1.2 in
    let most : (c.measure-set.result.size ≤ 16777216) =
    (c.measure-set.ensures c.requires.1.0 _ _ c.args.i (c.item_end-end.ensures ∙ (set-ends v c.requires.0).0) v.at).most in
    (omega (arith, v.filled.small), omega (arith, most), omega (arith, c.min-beside.ensures, partial_most v c.requires.0))

pub measure_at_cut-size-requires : goal.measure_at_cut-size-requires
measure_at_cut-size-requires c =
    let inside = c.requires.0 in
    let v = c.requires.1.2 in
    let early : (c.args.info.epoch + c.args.sets.filling.cuts + 1 < 2147483648) = omega (arith, v.table.described.epochs, v.filled.few, inside) in
    let y = c.measure-set.ensures c.requires.1.0 _ _ c.args.i (c.item_end-end.ensures ∙ (set-ends v inside).0) v.at in
    record { epoch_bound = omega (arith, early); by_index = (c.requires.1.0, _, _, _, at_cut (short v inside) v.at y) }

pub overflow_add-size : goal.overflow_add-size
overflow_add-size c =
    let v = c.requires.1.2 in
    let set = c.measure-set.ensures c.requires.1.0 _ _ c.args.i (c.item_end-end.ensures ∙ (set-ends v c.requires.0).0) v.at in
    let afresh = c.measure_at_cut-size.ensures c.requires.1.0 _ _ _ (at_cut (short v c.requires.0) v.at set) in
    omega (arith, afresh.most set.most)

pub cut-requires : goal.cut-requires
cut-requires c =
    let v = c.requires.1.2 in
    let set = c.measure-set.ensures c.requires.1.0 _ _ c.args.i (c.item_end-end.ensures ∙ (set-ends v c.requires.0).0) v.at in
    let afresh = c.measure_at_cut-size.ensures c.requires.1.0 _ _ _ (at_cut (short v c.requires.0) v.at set) in
    (omega (arith, afresh.most set.most), omega arith, cut_room v.table.described _ v.filled c.requires.0)

pub returns-then-is_due : goal.returns-then-is_due
returns-then-is_due c =
    λ b d v.
    let y = c.measure-set.ensures b _ _ c.args.i (c.item_end-end.ensures ∙ (set-ends v c.requires.0).0) v.at in
    set_cut v c.requires.0 y c.is_looked_at.ensures (not-false c.is_looked_at.result (ap not c.if-not-is_looked_at.false)) c.min-beside.ensures
    c.is_due.ensures c.if-is_due.true (c.measure_at_cut-size.ensures b _ _ _ (at_cut (short v c.requires.0) v.at y)) c.cut.ensures

pub overflow_add-set-2 : goal.overflow_add-set-2
overflow_add-set-2 c =
    let most : (c.measure-set.result.size ≤ 16777216) =
    (c.measure-set.ensures c.requires.1.0 _ _ c.args.i (c.item_end-end.ensures ∙ (set-ends c.requires.1.2 c.requires.0).0) c.requires.1.2.at).most
    in
    omega (arith, most)

pub add-requires : goal.add-requires
add-requires c =
    let v = c.requires.1.2 in
    let most : (c.measure-set.result.size ≤ 16777216) =
    (c.measure-set.ensures c.requires.1.0 _ _ c.args.i (c.item_end-end.ensures ∙ (set-ends v c.requires.0).0) v.at).most in
    (omega (arith, v.filled.small), omega (arith, most))

pub returns : goal.returns
returns c =
    λ b d v.
    let y = c.measure-set.ensures b _ _ c.args.i (c.item_end-end.ensures ∙ (set-ends v c.requires.0).0) v.at in
    set-added v c.requires.0 y c.is_looked_at.ensures (not-false c.is_looked_at.result (ap not c.if-not-is_looked_at.false)) c.min-beside.ensures
    c.is_due.ensures c.if-is_due.false c.add.ensures
