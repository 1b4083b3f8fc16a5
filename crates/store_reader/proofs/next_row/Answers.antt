-- `store_reader::next_row` meets its contract: the rows before `row` are below the key. Assumes nothing.
use native.Mathlib.Omega.{arith}
use Rattle.store_reader.proofs.Rows.{key_asks, rest, up, down, found}
use Rattle.store_reader.proofs.next_row.Goals as goal

pub loop-row-init : goal.loop-row-init
loop-row-init c = let p = c.requires in rest p.1 p.2

pub key_at-requires : goal.key_at-requires
key_at-requires c = key_asks c.requires.0 _ (omega arith)

pub returns-then-key-key_at : goal.returns-then-key-key_at
returns-then-key-key_at c = found (down c.requires.0 c.loop-row.invariant c.loop-row.row (omega arith) (omega arith) (omega arith)) (omega arith)

pub loop-row-preserved : goal.loop-row-preserved
loop-row-preserved c = up c.requires.0 c.loop-row.invariant c.loop-row.row (omega arith) (omega arith) (omega arith)
