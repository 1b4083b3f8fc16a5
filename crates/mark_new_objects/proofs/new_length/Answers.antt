-- `mark_new_objects::new_length` meets its contract: the kept table's parts and the objects of the first i new tables are summed. Assumes nothing.
use native.Mathlib.Omega.{arith}
use mathlib.Core.Path.{refl}
use Rattle.mark_new_objects.proofs.Lengths.{first_few, total_start, total_turn, total_stop, turn_few, turn_fits}
use Rattle.mark_new_objects.proofs.new_length.Goals as goal

pub parts_length-total-requires : goal.parts_length-total-requires
parts_length-total-requires c = first_few _ _ _ _ c.args.bases c.requires (omega arith) _ c.part_end-at.ensures

pub loop-i-init : goal.loop-i-init
loop-i-init c = total_start _ _ _ _ _ c.requires (omega arith) _ _ c.part_end-at.ensures c.parts_length-total.ensures

pub part_end-end-requires : goal.part_end-end-requires
part_end-end-requires c = c.loop-i.invariant.halved.inside

pub parts_length-parts-requires : goal.parts_length-parts-requires
parts_length-parts-requires c =
    let inv = c.loop-i.invariant in
    turn_few _ _ _ _ _ _ _ _ inv c.loop-i-test.true _ _ _ refl c.cut_after-hi.ensures c.part_end-end.ensures

pub overflow_add-total : goal.overflow_add-total
overflow_add-total c =
    let inv = c.loop-i.invariant in
    omega (arith, turn_fits _ _ _ _ _ _ _ _ inv c.loop-i-test.true _ _ _ refl c.cut_after-hi.ensures c.part_end-end.ensures _ c.parts_length-parts.ensures)

pub overflow_add-total-in-loop-i : goal.overflow_add-total-in-loop-i
overflow_add-total-in-loop-i c =
    let inv = c.loop-i.invariant in
    omega (arith, turn_fits _ _ _ _ _ _ _ _ inv c.loop-i-test.true _ _ _ refl c.cut_after-hi.ensures c.part_end-end.ensures _ c.parts_length-parts.ensures)

pub loop-i-preserved : goal.loop-i-preserved
loop-i-preserved c =
    let inv = c.loop-i.invariant in
    total_turn _ _ _ _ _ _ _ _ inv c.loop-i-test.true _ _ _ refl c.cut_after-hi.ensures c.part_end-end.ensures _ c.parts_length-parts.ensures

pub returns : goal.returns
returns c = total_stop _ _ _ _ _ _ _ _ c.loop-i.invariant c.loop-i-test.false
