-- `ot_class_def_writer::covered::Entries::write_ranges` meets its contract: format and count, and the ranges behind them. Assumes nothing.
use native.Mathlib.Omega.{arith}
use Rattle.ot_class_def_writer.proofs.Heads.{two_then}
use Rattle.ot_class_def_writer.proofs.covered.Entries.write_ranges.Goals as goal

pub returns : goal.returns
returns c =
    record {
      out_value = two_then _ _ _ _ _ (omega (arith, c.requires.count_in_bounds)) c.put_u16.ensures c.put_u16-2.ensures c.put_runs.ensures.out_value;
      value = omega (arith, c.requires.count_value, c.put_runs.ensures.value);
    }
