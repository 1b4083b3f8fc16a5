-- `pair_new_objects::write_tables` meets its contract: the objects of the first j new tables are written. Assumes nothing.
use native.Mathlib.Omega.{arith}
use mathlib.Core.Path.{refl}
use Rattle.pair_new_objects.proofs.Looping.{tables_start, tables_stop, row_small, old_now, turn_same, turn_beside, turn_items, turn_room, tables_turn}
use Rattle.pair_new_objects.proofs.write_tables.Goals as goal

pub loop-j-init : goal.loop-j-init
loop-j-init c = tables_start _ _ _ _ _ _ _ _ _ _ c.requires.planned_parts c.requires.part_end c.requires.old c.requires.objects_room_lem

pub part_end-to-requires : goal.part_end-to-requires
part_end-to-requires c = c.loop-j.invariant.halved.inside

pub write_table_objects-at-requires : goal.write_table_objects-at-requires
write_table_objects-at-requires c =
    let to_is = c.part_end-to.ensures in
    let hi_is = c.cut_after-hi.ensures in
    let inv = c.loop-j.invariant in
    let more = c.loop-j-test.true in
    record {
      classes_len = turn_same _ _ _ _ _ _ _ _ _ _ _ _ _ _ _ inv more _ _ _ refl hi_is to_is;
      beside = turn_beside _ _ _ _ _ _ _ _ _ _ _ _ _ _ _ inv more _ _ _ refl hi_is to_is;
      old = old_now _ _ _ _ _ _ _ _ _ _ _ _ _ _ _ inv more;
      lo_le_hi = turn_items _ _ _ _ _ _ _ _ _ _ _ _ _ _ _ inv more _ _ _ refl hi_is to_is;
      objects_room_lem = turn_room _ _ _ _ _ _ _ _ _ _ _ _ _ _ _ inv more _ _ _ refl hi_is to_is;
    }

pub overflow_add-row : goal.overflow_add-row
overflow_add-row c = omega (arith, row_small _ _ _ _ _ _ _ _ _ _ _ _ _ _ _ c.loop-j.invariant c.loop-j-test.true, c.well_formed)

pub overflow_add-row-in-loop-j : goal.overflow_add-row-in-loop-j
overflow_add-row-in-loop-j c = omega (arith, row_small _ _ _ _ _ _ _ _ _ _ _ _ _ _ _ c.loop-j.invariant c.loop-j-test.true, c.well_formed)

pub loop-j-preserved : goal.loop-j-preserved
loop-j-preserved c =
    tables_turn _ _ _ _ _ _ _ _ _ _ _ _ _ _ _ c.loop-j.invariant c.loop-j-test.true _ _ _ refl c.cut_after-hi.ensures c.part_end-to.ensures _ _ _
    c.write_table_objects-at.ensures

pub returns : goal.returns
returns c = tables_stop _ _ _ _ _ _ _ _ _ _ _ _ _ _ _ c.loop-j.invariant c.loop-j-test.false
