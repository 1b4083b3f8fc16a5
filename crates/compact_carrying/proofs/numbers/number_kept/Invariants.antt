-- `numbers::number_kept` meets its contract: the numbers of the objects passed stand behind the marks. Assumes nothing.
use Rattle.compact_carrying.proofs.Numbering.{Numbering}
use Rattle.compact_carrying.proofs.numbers.number_kept.Given as goal

abbrev pub invariant-loop-i : goal.invariant-loop-i
invariant-loop-i l = Numbering l.initial.walk l.n l.walk l.next l.i
