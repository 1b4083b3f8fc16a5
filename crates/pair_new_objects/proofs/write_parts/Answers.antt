-- `pair_new_objects::write_parts` meets its contract: the coverage, and behind it in format 2 the class definition. Assumes nothing.
use native.Mathlib.Omega.{arith}
use Rattle.pair_new_objects.proofs.Parts.{cover_ready, middle_small, row_inside, one_done, class_ready, end_small, next_inside, two_done}
use Rattle.pair_new_objects.proofs.write_parts.Goals as goal

pub write_coverage-middle-requires : goal.write_coverage-middle-requires
write_coverage-middle-requires c =
    let all = cover_ready _ _ _ _ c.requires.classes_len c.requires.beside _ _ _ _ c.requires.objects_room_lem in
    record { ascending = all.0; glyphs_in_bounds = all.1 }

pub overflow_cast-middle : goal.overflow_cast-middle
overflow_cast-middle c =
    omega (
      arith,
      middle_small _ _ _ _ c.requires.classes_len c.requires.beside _ _ _ _ c.requires.objects_room_lem _ c.write_coverage-middle.ensures.1,
    )

pub put_object-requires : goal.put_object-requires
put_object-requires c = row_inside _ _ _ _ c.requires.classes_len c.requires.beside _ _ _ _ c.requires.objects_room_lem

pub returns-then-format-eq1 : goal.returns-then-format-eq1
returns-then-format-eq1 c =
    one_done _ _ _ _ c.requires.classes_len c.requires.beside _ _ _ _ c.requires.objects_room_lem _ _ _ c.write_coverage-middle.ensures
    c.put_object.ensures c.if-format-eq1.true

pub write_class_def-end-requires : goal.write_class_def-end-requires
write_class_def-end-requires c =
    let all =
    class_ready _ _ _ _ c.requires.classes_len c.requires.beside _ _ _ _ c.requires.objects_room_lem _ _ _ c.write_coverage-middle.ensures
    c.put_object.ensures c.if-format-eq1.false in
    record { classes_len = all.0; ascending = all.1.0; first_len_bound = all.1.1.0; first_in_bounds = all.1.1.1 }

pub overflow_cast-middle-2 : goal.overflow_cast-middle-2
overflow_cast-middle-2 c =
    omega (
      arith,
      middle_small _ _ _ _ c.requires.classes_len c.requires.beside _ _ _ _ c.requires.objects_room_lem _ c.write_coverage-middle.ensures.1,
    )

pub overflow_cast-end : goal.overflow_cast-end
overflow_cast-end c =
    omega (
      arith,
      end_small _ _ _ _ c.requires.classes_len c.requires.beside _ _ _ _ c.requires.objects_room_lem _ _ _
          c.write_coverage-middle.ensures c.put_object.ensures c.if-format-eq1.false
          _ c.write_class_def-end.ensures.value,
    )

pub put_object-requires-2 : goal.put_object-requires-2
put_object-requires-2 c =
    next_inside _ _ _ _ c.requires.classes_len c.requires.beside _ _ _ _ c.requires.objects_room_lem _ _ _ c.write_coverage-middle.ensures
    c.put_object.ensures c.if-format-eq1.false

pub returns : goal.returns
returns c =
    two_done _ _ _ _ c.requires.classes_len c.requires.beside _ _ _ _ c.requires.objects_room_lem _ _ _ c.write_coverage-middle.ensures
    c.put_object.ensures c.if-format-eq1.false _ _ _
    (c.write_class_def-end.ensures.out_value, c.write_class_def-end.ensures.value) c.put_object-2.ensures
