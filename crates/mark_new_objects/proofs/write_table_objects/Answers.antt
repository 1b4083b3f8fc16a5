-- `mark_new_objects::write_table_objects` meets its contract: the table, and behind it its parts. Assumes nothing.
use native.Mathlib.Omega.{arith}
use Rattle.store_object_rows.proofs.Writing.{one_fits, one_small, rest_room, rest_done}
use Rattle.mark_new_table.proofs.Bytes.{table_long}
use Rattle.mark_new_objects.proofs.write_table_objects.Goals as goal

pub write_table-end-requires : goal.write_table-end-requires
write_table-end-requires c =
    record {
      lo_le_hi = c.requires.range_marks.classes.rises;
      at_in_bounds = omega (arith, one_fits _ _ c.requires.objects_room_lem, table_long c.args.lo c.args.hi);
    }

pub overflow_cast-end : goal.overflow_cast-end
overflow_cast-end c = omega (arith, one_small _ _ c.requires.objects_room_lem c.write_table-end.ensures.ends)

pub write_parts-requires : goal.write_parts-requires
write_parts-requires c =
    let end_is = c.write_table-end.ensures in
    record {
      range_marks = c.requires.range_marks;
      objects_room_lem = rest_room _ _ c.requires.objects_room_lem end_is.bytes c.put_object.ensures end_is.ends;
    }

pub returns : goal.returns
returns c = rest_done _ _ c.requires.objects_room_lem c.write_table-end.ensures.bytes c.put_object.ensures c.write_table-end.ensures.ends c.write_parts.ensures
