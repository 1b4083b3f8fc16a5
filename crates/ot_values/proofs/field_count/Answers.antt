-- `ot_values::field_count` meets its contract: the mask keeps the table's eight bits, and their ones are the fields before its end.
-- Assumes nothing.
use mathlib.Core.Path.{◌∙◌}
use native.Mathlib.Omega.{arith}
use Rattle.ot_layouts.proofs.Values.{position_all}
use Rattle.ot_values.proofs.Ones.{masked_ones, position_fits_lem}
use Rattle.ot_values.proofs.field_count.Goals as goal

pub overflow_cast-result : goal.overflow_cast-result
overflow_cast-result c = omega (arith, masked_ones c.args.format 8 (omega arith), position_fits_lem c.args.format 8 (omega arith))

pub returns : goal.returns
returns c = masked_ones c.args.format 8 (omega arith) ∙ position_all c.args.format
