-- `pair_row_points::weigh_row` meets its contract: the row's cost and what stands beside the rows are the cut rule's, and a cut restarts
-- the estimate with the row's class. Assumes nothing.
use Prim.Native.Nat.{◌≤◌, ◌<◌, ◌+◌}
use mathlib.Core.Path.{◌∙◌}
use native.Mathlib.Omega.{arith}
use Rattle.pair_row_classes.proofs.ClassesHeld.{held_small}
use Rattle.pair_items.proofs.Turns.{cut_room}
use Rattle.pair_items.proofs.ItemSizes.{at_cut}
use Rattle.pair_row_points.proofs.ClassRows.{linked_most, beside_most, row_ends, row_most, row_short, row_added, row_cut}
use Rattle.pair_row_points.proofs.weigh_row.Goals as goal

pub item_end-end-requires : goal.item_end-end-requires
item_end-end-requires c = omega (arith, (row_ends c.requires.1.2 c.requires.0).1)

pub measure-measured-requires : goal.measure-measured-requires
measure-measured-requires c =
    let inside = c.requires.0 in
    let v = c.requires.1.2 in
    record {
      epoch_bound = (omega (arith, v.table.described.epochs, v.filled.few, inside), omega (arith, c.item_end-end.ensures, (row_ends v inside).1));
      by_index = (c.requires.1.0, _, _, c.args.i, c.item_end-end.ensures ∙ (row_ends v inside).0, v.at);
    }

pub beside-beside-requires : goal.beside-beside-requires
beside-beside-requires c =
    let v = c.requires.1.2 in
    let (h, e) = c.add-held.ensures _ _ v.filled.first v.table.ordered v.held in
    record { small = held_small v.table.ordered h; class2_bound = omega (arith, v.table.class2, linked_most v.table.described 10) }

pub overflow_add-info : goal.overflow_add-info
overflow_add-info c =
    let v = c.requires.1.2 in
    let most : (c.measure-measured.result.size ≤ 16777216) × (c.args.info.item ≤ 16777216) =
    ((c.measure-measured.ensures c.requires.1.0 _ _ c.args.i (c.item_end-end.ensures ∙ (row_ends v c.requires.0).0) v.at).most, row_most v c.requires.0)
    in
    omega (arith, most)

pub is_due-requires : goal.is_due-requires
is_due-requires c =
    let v = c.requires.1.2 in
    let most : (c.measure-measured.result.size ≤ 16777216) × (c.args.info.item ≤ 16777216) =
    ((c.measure-measured.ensures c.requires.1.0 _ _ c.args.i (c.item_end-end.ensures ∙ (row_ends v c.requires.0).0) v.at).most, row_most v c.requires.0)
    in
    let (h, e) = c.add-held.ensures _ _ v.filled.first v.table.ordered v.held in (
      omega (arith, v.filled.small),
      omega (arith, most),
      rw c.beside-beside.ensures (beside_most _ _ (held_small v.table.ordered h) (omega (arith, v.table.class2, linked_most v.table.described 10))),
    )

pub measure_at_cut-size-requires : goal.measure_at_cut-size-requires
measure_at_cut-size-requires c =
    let inside = c.requires.0 in
    let v = c.requires.1.2 in
    let early : (c.args.info.epoch + c.args.rows.filling.cuts + 1 < 2147483648) = omega (arith, v.table.described.epochs, v.filled.few, inside) in
    let y = c.measure-measured.ensures c.requires.1.0 _ _ c.args.i (c.item_end-end.ensures ∙ (row_ends v inside).0) v.at in
    record { epoch_bound = omega (arith, early); by_index = (c.requires.1.0, _, _, _, at_cut (row_short v inside) v.at y) }

pub overflow_add-info-then-is_due : goal.overflow_add-info-then-is_due
overflow_add-info-then-is_due c =
    let v = c.requires.1.2 in
    let row = c.measure-measured.ensures c.requires.1.0 _ _ c.args.i (c.item_end-end.ensures ∙ (row_ends v c.requires.0).0) v.at in
    let afresh = c.measure_at_cut-size.ensures c.requires.1.0 _ _ _ (at_cut (row_short v c.requires.0) v.at row) in
    omega (arith, afresh.most row.most, row_most v c.requires.0)

pub cut-requires : goal.cut-requires
cut-requires c =
    let v = c.requires.1.2 in
    let row = c.measure-measured.ensures c.requires.1.0 _ _ c.args.i (c.item_end-end.ensures ∙ (row_ends v c.requires.0).0) v.at in
    let afresh = c.measure_at_cut-size.ensures c.requires.1.0 _ _ _ (at_cut (row_short v c.requires.0) v.at row) in
    (omega (arith, afresh.most row.most, row_most v c.requires.0), omega arith, cut_room v.table.described _ v.filled c.requires.0)

pub restart-requires : goal.restart-requires
restart-requires c =
    let (h, e) = c.add-held.ensures _ _ c.requires.1.2.filled.first c.requires.1.2.table.ordered c.requires.1.2.held in
    (_, _, _, c.requires.1.2.filled.first, c.requires.1.2.table.ordered, h, e)

pub returns-then-is_due : goal.returns-then-is_due
returns-then-is_due c =
    λ b d v.
    let y = c.measure-measured.ensures b _ _ c.args.i (c.item_end-end.ensures ∙ (row_ends v c.requires.0).0) v.at in
    let (h, e) = c.add-held.ensures _ _ v.filled.first v.table.ordered v.held in
    row_cut v c.requires.0 y h c.beside-beside.ensures c.is_due.ensures c.if-is_due.true
    (c.measure_at_cut-size.ensures b _ _ _ (at_cut (row_short v c.requires.0) v.at y)) c.cut.ensures
    (c.restart.ensures _ _ _ v.filled.first v.table.ordered h e)

pub overflow_add-info-2 : goal.overflow_add-info-2
overflow_add-info-2 c =
    let v = c.requires.1.2 in
    let most : (c.measure-measured.result.size ≤ 16777216) × (c.args.info.item ≤ 16777216) =
    ((c.measure-measured.ensures c.requires.1.0 _ _ c.args.i (c.item_end-end.ensures ∙ (row_ends v c.requires.0).0) v.at).most, row_most v c.requires.0)
    in
    omega (arith, most)

pub add-requires : goal.add-requires
add-requires c =
    let v = c.requires.1.2 in
    let most : (c.measure-measured.result.size ≤ 16777216) × (c.args.info.item ≤ 16777216) =
    ((c.measure-measured.ensures c.requires.1.0 _ _ c.args.i (c.item_end-end.ensures ∙ (row_ends v c.requires.0).0) v.at).most, row_most v c.requires.0)
    in (omega (arith, v.filled.small), omega (arith, most))

pub returns : goal.returns
returns c =
    λ b d v.
    let y = c.measure-measured.ensures b _ _ c.args.i (c.item_end-end.ensures ∙ (row_ends v c.requires.0).0) v.at in
    let (h, e) = c.add-held.ensures _ _ v.filled.first v.table.ordered v.held in
    row_added v c.requires.0 y h c.beside-beside.ensures c.is_due.ensures c.if-is_due.false c.add.ensures
