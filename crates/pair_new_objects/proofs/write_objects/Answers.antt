-- `pair_new_objects::write_objects` meets its contract: the new tables' objects, and behind them the kept table's parts. Assumes nothing.
use native.Mathlib.Omega.{arith}
use mathlib.Core.Path.{refl}
use Rattle.pair_new_objects.proofs.Looping.{own_few, tables_room, tables_small, first_same, first_beside, last_room, all_done}
use Rattle.pair_new_objects.proofs.write_objects.Goals as goal

pub overflow_add-row : goal.overflow_add-row
overflow_add-row c =
    omega (
      arith,
      tables_small _ _ _ _ _ _ _ _ _ _ c.requires.planned_parts c.requires.old c.part_end-first.ensures c.requires.objects_room_lem,
      own_few _ _ _ _ c.requires.old,
    )

pub overflow_mul-row : goal.overflow_mul-row
overflow_mul-row c =
    omega (arith, tables_small _ _ _ _ _ _ _ _ _ _ c.requires.planned_parts c.requires.old c.part_end-first.ensures c.requires.objects_room_lem)

pub overflow_add-row-2 : goal.overflow_add-row-2
overflow_add-row-2 c =
    omega (arith, tables_small _ _ _ _ _ _ _ _ _ _ c.requires.planned_parts c.requires.old c.part_end-first.ensures c.requires.objects_room_lem)

pub write_tables-at-requires : goal.write_tables-at-requires
write_tables-at-requires c =
    let first_is = c.part_end-first.ensures in
    let planned_parts = c.requires.planned_parts in
    record {
      planned_parts = planned_parts;
      part_end = first_is;
      old = c.requires.old;
      objects_room_lem = tables_room _ _ _ _ _ _ _ _ _ _ planned_parts c.requires.old first_is c.requires.objects_room_lem;
    }

pub write_parts-requires : goal.write_parts-requires
write_parts-requires c =
    let old = c.requires.old in
    let first_is = c.part_end-first.ensures in
    let planned_parts = c.requires.planned_parts in
    let objects_room_lem = c.requires.objects_room_lem in
    record {
      classes_len = first_same _ _ _ _ _ _ _ _ _ _ planned_parts old first_is objects_room_lem;
      beside = first_beside _ _ _ _ _ _ _ _ _ _ planned_parts old first_is objects_room_lem;
      objects_room_lem = last_room _ _ _ _ _ _ _ _ _ _ planned_parts old first_is objects_room_lem _ refl _ _ _ c.write_tables-at.ensures;
    }

pub returns : goal.returns
returns c =
    all_done _ _ _ _ _ _ _ _ _ _ c.requires.planned_parts c.requires.old c.part_end-first.ensures c.requires.objects_room_lem _ refl _ _ _
    c.write_tables-at.ensures _ _ _ c.write_parts.ensures
