-- `pair_new_objects::new_length` meets its contract: the kept table's parts and the objects of the first i new tables are summed. Assumes nothing.
use native.Mathlib.Omega.{arith}
use mathlib.Core.Path.{refl}
use Rattle.cut_parts.proofs.TableParts.{same_part}
use Rattle.pair_new_objects.proofs.Planning.{kept_beside}
use Rattle.pair_new_objects.proofs.Lengths.{total_start, total_turn, total_stop, turn_ready, rows_small, turn_small, turn_fits}
use Rattle.pair_new_objects.proofs.new_length.Goals as goal

pub parts_length-total-requires : goal.parts_length-total-requires
parts_length-total-requires c =
    record {
      classes_len = same_part _ _ _ _ c.requires.parts 0 _ (omega arith) c.part_end-at.ensures.inside;
      beside = kept_beside _ _ _ _ c.requires _ c.part_end-at.ensures;
    }

pub loop-i-init : goal.loop-i-init
loop-i-init c = total_start _ _ _ _ c.requires _ _ c.part_end-at.ensures c.parts_length-total.ensures

pub part_end-end-requires : goal.part_end-end-requires
part_end-end-requires c = c.loop-i.invariant.halved.inside

pub parts_length-parts-requires : goal.parts_length-parts-requires
parts_length-parts-requires c =
    let all = turn_ready _ _ _ _ _ _ _ c.loop-i.invariant c.loop-i-test.true _ _ _ refl c.cut_after-hi.ensures c.part_end-end.ensures in
    record { classes_len = all.0; beside = all.1 }

pub overflow_mul-total : goal.overflow_mul-total
overflow_mul-total c =
    omega (
      arith,
      rows_small _ _ _ _ _ _ _ c.loop-i.invariant c.loop-i-test.true _ _ _ _ refl c.cut_after-hi.ensures c.part_end-end.ensures
          c.parts_length-parts.ensures,
    )

pub overflow_add-total : goal.overflow_add-total
overflow_add-total c =
    omega (
      arith,
      turn_small _ _ _ _ _ _ _ c.loop-i.invariant c.loop-i-test.true _ _ _ _ refl c.cut_after-hi.ensures c.part_end-end.ensures
          c.parts_length-parts.ensures,
    )

pub overflow_add-total-in-loop-i : goal.overflow_add-total-in-loop-i
overflow_add-total-in-loop-i c =
    omega (
      arith,
      turn_small _ _ _ _ _ _ _ c.loop-i.invariant c.loop-i-test.true _ _ _ _ refl c.cut_after-hi.ensures c.part_end-end.ensures
          c.parts_length-parts.ensures,
    )

pub overflow_add-total-in-loop-i-2 : goal.overflow_add-total-in-loop-i-2
overflow_add-total-in-loop-i-2 c =
    omega (
      arith,
      turn_fits _ _ _ _ _ _ _ c.loop-i.invariant c.loop-i-test.true _ _ _ _ refl c.cut_after-hi.ensures c.part_end-end.ensures
          c.parts_length-parts.ensures,
    )

pub loop-i-preserved : goal.loop-i-preserved
loop-i-preserved c =
    total_turn _ _ _ _ _ _ _ c.loop-i.invariant c.loop-i-test.true _ _ _ _ refl c.cut_after-hi.ensures c.part_end-end.ensures
    c.parts_length-parts.ensures

pub returns : goal.returns
returns c = total_stop _ _ _ _ _ _ _ c.loop-i.invariant c.loop-i-test.false
