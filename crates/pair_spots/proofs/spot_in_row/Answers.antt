-- `pair_spots::spot_in_row` meets its contract: nothing wraps. Assumes nothing.
use native.Mathlib.Omega.{arith}
use Rattle.pair_spots.proofs.Widths.{row_fits, place_fits, behind_fits}
use Rattle.pair_spots.proofs.spot_in_row.Goals as goal

pub overflow_mul-record : goal.overflow_mul-record
overflow_mul-record c = omega (arith, row_fits c.from.result c.from-2.result (omega arith) (omega arith))

pub overflow_add-record : goal.overflow_add-record
overflow_add-record c = omega (arith, row_fits c.from.result c.from-2.result (omega arith) (omega arith))

pub overflow_mul-at : goal.overflow_mul-at
overflow_mul-at c = record { fits = place_fits _ _ c.requires (omega (arith, row_fits c.from.result c.from-2.result (omega arith) (omega arith))) }

pub overflow_add-at : goal.overflow_add-at
overflow_add-at c = record { fits = behind_fits _ _ c.requires (omega (arith, row_fits c.from.result c.from-2.result (omega arith) (omega arith))) }
