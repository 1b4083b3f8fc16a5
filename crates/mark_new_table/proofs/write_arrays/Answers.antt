-- `mark_new_table::write_arrays` meets its contract: the mark array, and behind it the base array. Assumes nothing.
use native.Mathlib.Omega.{arith}
use Rattle.mark_new_table.proofs.Arrays.{marks_fit, middle_small, base_fits, end_small, arrays_done}
use Rattle.mark_new_table.proofs.write_arrays.Goals as goal

pub write_mark_array-middle-requires : goal.write_mark_array-middle-requires
write_mark_array-middle-requires c = record { classes = c.requires.classes; classes_in_bounds = marks_fit _ _ _ _ c.requires.objects_room_lem }

pub overflow_cast-middle : goal.overflow_cast-middle
overflow_cast-middle c = omega (arith, middle_small _ _ _ _ c.requires.objects_room_lem c.write_mark_array-middle.ensures)

pub write_base_array-end-requires : goal.write_base_array-end-requires
write_base_array-end-requires c = base_fits _ _ _ _ c.requires.objects_room_lem c.write_mark_array-middle.ensures c.put_object.ensures

pub overflow_cast-middle-2 : goal.overflow_cast-middle-2
overflow_cast-middle-2 c = omega (arith, middle_small _ _ _ _ c.requires.objects_room_lem c.write_mark_array-middle.ensures)

pub overflow_cast-end : goal.overflow_cast-end
overflow_cast-end c =
    omega (arith, end_small _ _ _ _ c.requires.objects_room_lem c.write_mark_array-middle.ensures c.put_object.ensures c.write_base_array-end.ensures)

pub returns : goal.returns
returns c =
    arrays_done _ _ _ _ c.requires.objects_room_lem c.write_mark_array-middle.ensures c.put_object.ensures c.write_base_array-end.ensures
    c.put_object-2.ensures
