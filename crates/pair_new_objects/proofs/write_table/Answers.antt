-- `pair_new_objects::write_table` meets its contract: each format by its own writer. Assumes nothing.
use Rattle.pair_new_objects.proofs.Tables.{room1, room2, cloned_one, cloned_two}
use Rattle.pair_new_objects.proofs.write_table.Goals as goal

pub write_format1-requires : goal.write_format1-requires
write_format1-requires c =
    let all = room1 _ _ _ _ c.requires.old _ _ c.requires.lo_le_hi.0 c.requires.lo_le_hi.1 c.if-layout-eq1.true c.requires.hi_in_bounds in
    record { lo_le_hi = all.0; head_bound = all.1.0; lo_in_bounds = all.1.1 }

pub returns-then-layout-eq1 : goal.returns-then-layout-eq1
returns-then-layout-eq1 c = cloned_one _ _ _ _ c.requires.old _ _ c.requires.lo_le_hi.0 c.requires.lo_le_hi.1 c.if-layout-eq1.true c.write_format1.ensures

pub write_format2-requires : goal.write_format2-requires
write_format2-requires c =
    let all = room2 _ _ _ _ c.requires.old _ _ c.requires.lo_le_hi.0 c.requires.lo_le_hi.1 c.if-layout-eq1.false c.requires.hi_in_bounds in
    record { lo_le_hi = all.0; hi_bound = all.1.0; lo_in_bounds = all.1.1 }

pub returns : goal.returns
returns c = cloned_two _ _ _ _ c.requires.old _ _ c.requires.lo_le_hi.0 c.requires.lo_le_hi.1 c.if-layout-eq1.false c.write_format2.ensures
