-- `mark_new_objects::write_objects` meets its contract: the new tables' objects, and behind them the kept table's parts. Assumes nothing.
use native.Mathlib.Omega.{arith}
use Rattle.mark_new_objects.proofs.Looping.{tables_room, tables_small, first_marked, last_room, all_done}
use Rattle.mark_new_objects.proofs.write_objects.Goals as goal

pub overflow_add-row : goal.overflow_add-row
overflow_add-row c = omega (arith, tables_small _ _ _ _ _ _ _ _ _ _ c.requires.planned_parts c.part_end-first.ensures c.requires.objects_room_lem)

pub write_tables-at-requires : goal.write_tables-at-requires
write_tables-at-requires c =
    let first_is = c.part_end-first.ensures in
    let planned_parts = c.requires.planned_parts in
    record {
      planned_parts = planned_parts;
      part_end = first_is;
      objects_room_lem = tables_room _ _ _ _ _ _ _ _ _ _ planned_parts first_is c.requires.objects_room_lem;
    }

pub write_parts-requires : goal.write_parts-requires
write_parts-requires c =
    let first_is = c.part_end-first.ensures in
    let planned_parts = c.requires.planned_parts in
    let objects_room_lem = c.requires.objects_room_lem in
    record {
      range_marks = first_marked _ _ _ _ _ _ _ _ _ _ planned_parts first_is objects_room_lem;
      objects_room_lem = last_room _ _ _ _ _ _ _ _ _ _ planned_parts first_is objects_room_lem _ _ _ c.write_tables-at.ensures;
    }

pub returns : goal.returns
returns c =
    all_done _ _ _ _ _ _ _ _ _ _ c.requires.planned_parts c.part_end-first.ensures c.requires.objects_room_lem _ _ _ c.write_tables-at.ensures _ _ _
    c.write_parts.ensures
