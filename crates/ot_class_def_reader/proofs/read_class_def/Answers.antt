-- `ot_class_def_reader::read_class_def` meets its contract: the format says which reader is asked. Assumes nothing.
use native.Mathlib.Omega.{arith}
use Rattle.ot_layouts.proofs.ClassDefRead.{no_format, too_short_lem}
use Rattle.ot_class_def_reader.proofs.read_class_def.Goals as goal

pub returns-then-part-lt4 : goal.returns-then-part-lt4
returns-then-part-lt4 c = too_short_lem _ c.if-part-lt4.true

pub returns-in_default : goal.returns-in_default
returns-in_default c = no_format _ (λ e. omega arith) (λ e. omega arith)
