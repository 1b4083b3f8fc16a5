-- `lookup_new_objects::write_lookup` meets its contract: the old lookup lies below what is written. Assumes nothing.
use Prim.Native.Nat.{◌+◌, ◌*◌}
use native.Mathlib.Omega.{arith}
use Rattle.lookup_new_objects.proofs.Writing.{row_there, copy_ready, end_small, lookup_written}
use Rattle.lookup_new_objects.proofs.write_lookup.Goals as goal

pub bounds-objects-lookup : goal.bounds-objects-lookup
bounds-objects-lookup c = omega (arith, row_there c.requires)

pub overflow_cast-head-2 : goal.overflow_cast-head-2
overflow_cast-head-2 c = let a = c.args in omega (arith, c.slice_known-3-1.given (2 * a.lookup))

pub bounds-objects-lookup-2 : goal.bounds-objects-lookup-2
bounds-objects-lookup-2 c = omega (arith, row_there c.requires)

pub overflow_cast-tail-2 : goal.overflow_cast-tail-2
overflow_cast-tail-2 c = let a = c.args in omega (arith, c.slice_known-4-1.given (2 * a.lookup + 1))

pub copy_lookup-end-requires : goal.copy_lookup-end-requires
copy_lookup-end-requires c = copy_ready c.requires c.measure_lookup-size.ensures.subtables_is

pub overflow_cast-end : goal.overflow_cast-end
overflow_cast-end c =
    omega (
      arith,
      end_small c.requires c.measure_lookup-size.ensures.subtables_is c.copy_lookup-end.ensures,
    )

pub returns : goal.returns
returns c =
    lookup_written c.requires c.measure_lookup-size.ensures.subtables_is c.copy_lookup-end.ensures
    c.put_object.ensures
