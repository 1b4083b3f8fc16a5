-- `mark_new_objects::write_parts` meets its contract: the coverage, and behind it the arrays. Assumes nothing.
use native.Mathlib.Omega.{arith}
use Rattle.store_object_rows.proofs.Writing.{one_fits, one_small, rest_room, rest_done}
use Rattle.mark_new_objects.proofs.write_parts.Goals as goal

pub write_coverage-end-requires : goal.write_coverage-end-requires
write_coverage-end-requires c = record { ascending = c.requires.range_marks.ascending; glyphs_in_bounds = one_fits _ _ c.requires.objects_room_lem }

pub overflow_cast-end : goal.overflow_cast-end
overflow_cast-end c = omega (arith, one_small _ _ c.requires.objects_room_lem c.write_coverage-end.ensures.1)

pub write_arrays-requires : goal.write_arrays-requires
write_arrays-requires c =
    record {
      classes = c.requires.range_marks.classes;
      objects_room_lem = rest_room _ _ c.requires.objects_room_lem c.write_coverage-end.ensures.0 c.put_object.ensures c.write_coverage-end.ensures.1;
    }

pub returns : goal.returns
returns c = rest_done _ _ c.requires.objects_room_lem c.write_coverage-end.ensures.0 c.put_object.ensures c.write_coverage-end.ensures.1 c.write_arrays.ensures
