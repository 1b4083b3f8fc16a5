-- `lookup_new_objects::copy_lookup` meets its contract: type and flag, the count, the offsets and what stands behind them. Assumes nothing.
use native.Mathlib.Omega.{arith}
use Rattle.lookup_new_objects.proofs.Copied.{copy_room, copied}
use Rattle.lookup_new_objects.proofs.copy_lookup.Goals as goal

pub copy_bytes-requires : goal.copy_bytes-requires
copy_bytes-requires c =
    record {
      from_in_bounds = omega (arith, c.requires.long, c.requires.apart, copy_room c.requires _ c.subtable_count.ensures);
      at_in_bounds = omega (arith, copy_room c.requires _ c.subtable_count.ensures);
    }

pub put_u16-requires : goal.put_u16-requires
put_u16-requires c = omega (arith, copy_room c.requires _ c.subtable_count.ensures)

pub zero_bytes-requires : goal.zero_bytes-requires
zero_bytes-requires c = omega (arith, copy_room c.requires _ c.subtable_count.ensures)

pub copy_bytes-requires-2 : goal.copy_bytes-requires-2
copy_bytes-requires-2 c =
    let subtable_count_done = c.subtable_count.ensures in
    record {
      from_in_bounds = omega (arith, c.requires.long, c.requires.apart, subtable_count_done, copy_room c.requires _ subtable_count_done);
      at_in_bounds = omega (arith, copy_room c.requires _ subtable_count_done);
    }

pub overflow_add-result-3 : goal.overflow_add-result-3
overflow_add-result-3 c = omega (arith, copy_room c.requires _ c.subtable_count.ensures)

pub returns : goal.returns
returns c =
    copied c.requires _ c.subtable_count.ensures c.copy_bytes.ensures c.put_u16.ensures
    c.zero_bytes.ensures c.copy_bytes-2.ensures
