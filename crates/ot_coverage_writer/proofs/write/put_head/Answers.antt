-- `write::put_head` meets its contract: two numbers, one behind the other. Assumes nothing.
use mathlib.Core.Path.{sym, ap}
use Prim.Native.Nat.{ℕ, ◌+◌}
use native.Mathlib.Omega.{arith}
use Rattle.folds.proofs.Put.{put_then}
use Rattle.ot_layouts.proofs.Numbers.{length-be16}
use Rattle.ot_coverage_writer.proofs.write.put_head.Goals as goal

pub returns : goal.returns
returns c = put_then _ _ _ _ _ c.put_u16.ensures c.put_u16-2.ensures (ap (λ (n : ℕ). c.args.at + n) (sym (length-be16 c.args.format))) (omega arith)
