-- `store_reader::first_row_between` meets its contract: the rows before `from` are below the key, those from `to` on are not. Assumes nothing.
use native.Mathlib.Omega.{arith}
use Rattle.store_reader.proofs.Rows.{key_asks, up, down, found}
use Rattle.store_reader.proofs.first_row_between.Goals as goal

pub loop-from-init : goal.loop-from-init
loop-from-init c = c.requires.1

pub key_at-requires : goal.key_at-requires
key_at-requires c = key_asks c.requires.0 _ (omega (arith, c.loop-from.invariant.hi_le))

pub loop-from-preserved-then-key_at-key : goal.loop-from-preserved-then-key_at-key
loop-from-preserved-then-key_at-key c = up c.requires.0 c.loop-from.invariant _ (omega arith) (omega arith) (omega arith)

pub loop-from-preserved : goal.loop-from-preserved
loop-from-preserved c = down c.requires.0 c.loop-from.invariant _ (omega arith) (omega arith) (omega arith)

pub returns : goal.returns
returns c = found c.loop-from.invariant c.loop-from-test.false
