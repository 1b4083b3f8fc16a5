-- `store_reader::position_fits` meets its contract: three numbers of 32 bits add up in 64. Assumes nothing.
use Prim.Native.Nat.{◌+◌, ◌*◌}
use native.Mathlib.Omega.{arith}
use lib.ListN.{get_or}
use Rattle.store_reader.proofs.Checks.{position_within}
use Rattle.store_reader.proofs.position_fits.Goals as goal

pub overflow_cast-result : goal.overflow_cast-result
overflow_cast-result c = omega (arith, c.shared_slice_known-1.given (2 * c.args.i))

pub overflow_add-result : goal.overflow_add-result
overflow_add-result c = omega (arith, c.shared_slice_known-1.given (2 * c.args.i))

pub overflow_add-result-2 : goal.overflow_add-result-2
overflow_add-result-2 c = omega (arith, c.shared_slice_known-1.given (2 * c.args.i))

pub overflow_cast-result-3 : goal.overflow_cast-result-3
overflow_cast-result-3 c = omega (arith, c.shared_slice_known-2-1.given (2 * c.args.i + 1))

pub returns : goal.returns
returns c =
    let a = c.args in
    position_within (get_or a.objects.now (2 * a.i) 0) (get_or a.objects.now (2 * a.i + 1) 0) a.position
