-- `pair_new_objects::write_table_objects` meets its contract: the table, and behind it what stands beside it. Assumes nothing.
use native.Mathlib.Omega.{arith}
use Rattle.store_object_rows.proofs.Writing.{one_fits, one_row, one_small, rest_room, rest_done}
use Rattle.pair_new_objects.proofs.write_table_objects.Goals as goal

pub write_table-end-requires : goal.write_table-end-requires
write_table-end-requires c = record { old = c.requires.old; lo_le_hi = c.requires.lo_le_hi; hi_in_bounds = one_fits _ _ c.requires.objects_room_lem }

pub overflow_cast-end : goal.overflow_cast-end
overflow_cast-end c = omega (arith, one_small _ _ c.requires.objects_room_lem c.write_table-end.ensures.ends)

pub put_object-requires : goal.put_object-requires
put_object-requires c = one_row _ _ c.requires.objects_room_lem

pub write_parts-requires : goal.write_parts-requires
write_parts-requires c =
    let end_is = c.write_table-end.ensures in
    record {
      classes_len = c.requires.classes_len;
      beside = c.requires.beside;
      objects_room_lem = rest_room _ _ c.requires.objects_room_lem end_is.written c.put_object.ensures end_is.ends;
    }

pub returns : goal.returns
returns c =
    let end_is = c.write_table-end.ensures in
    rest_done _ _ c.requires.objects_room_lem end_is.written c.put_object.ensures end_is.ends c.write_parts.ensures
