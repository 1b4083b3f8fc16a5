-- `carrying::carry_out` meets its contract: the new objects, the link rows, the class count and the list are those after the split, and then the counts.
-- Assumes nothing.
use native.Mathlib.Omega.{arith}
use Rattle.mark_carrying.proofs.StoreAfter.{objects_asked, links_asked, count_asked, list_asked, bytes_fit, objects_fit_lem, rows_fit, carried}
use Rattle.mark_carrying.proofs.carrying.carry_out.Goals as goal

pub write_objects-bytes-requires : goal.write_objects-bytes-requires
write_objects-bytes-requires c =
    let all = objects_asked c.requires (λ i. (c.slice_known-1.given i).fits) in
    record { planned_parts = all.0; objects_room_lem = all.1 }

pub relink-rows-requires : goal.relink-rows-requires
relink-rows-requires c = (c.args.«data».now, c.args.objects.now, links_asked c.requires c.write_objects-bytes.ensures)

pub keep_classes-requires : goal.keep_classes-requires
keep_classes-requires c = let all = count_asked c.requires c.write_objects-bytes.ensures in record { table_in_bounds = all.0; class_count_at_in_bounds = all.1 }

pub number_tables-requires : goal.number_tables-requires
number_tables-requires c = list_asked c.requires

pub overflow_cast-byte_count : goal.overflow_cast-byte_count
overflow_cast-byte_count c = omega (arith, bytes_fit c.requires c.write_objects-bytes.ensures)

pub overflow_cast-object_count : goal.overflow_cast-object_count
overflow_cast-object_count c = omega (arith, objects_fit_lem c.requires)

pub overflow_add-object_count : goal.overflow_add-object_count
overflow_add-object_count c = omega (arith, objects_fit_lem c.requires)

pub overflow_cast-link_count : goal.overflow_cast-link_count
overflow_cast-link_count c = omega (arith, rows_fit c.requires (c.relink-rows.ensures _ _ (links_asked c.requires c.write_objects-bytes.ensures)))

pub returns : goal.returns
returns c =
    carried c.requires c.write_objects-bytes.ensures
    (c.relink-rows.ensures _ _ (links_asked c.requires c.write_objects-bytes.ensures))
    c.keep_classes.ensures
    c.number_tables.ensures
