-- `ot_class_def_writer::covered::Entries::write_list` meets its contract: format, start glyph and count, and the classes behind them. Assumes nothing.
use native.Mathlib.Omega.{arith}
use Rattle.ot_class_def_writer.proofs.Heads.{three_then}
use Rattle.ot_class_def_writer.proofs.covered.Entries.write_list.Goals as goal

pub returns : goal.returns
returns c =
    record {
      out_value =
          three_then _ _ _ _ _ _ (omega (arith, c.requires.span_in_bounds)) c.put_u16.ensures c.put_u16-2.ensures c.put_u16-3.ensures c.put_classes.ensures;
      value = omega arith;
    }
