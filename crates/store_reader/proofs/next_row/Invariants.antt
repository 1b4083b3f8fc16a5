-- `store_reader::next_row` meets its contract: the rows before `row` are below the key. Assumes nothing.
use Rattle.store_reader.specs.Rows.{key_of, Bracket}
use Rattle.store_reader.proofs.next_row.Given as goal

abbrev pub invariant-loop-row : goal.invariant-loop-row
invariant-loop-row l = Bracket l.links l.count (key_of l.parent l.position) l.row l.count
