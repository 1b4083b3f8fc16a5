-- `numbers::rewrite_roots` meets its contract: the roots before k have their new numbers, and all from k on are as they came. Assumes nothing.
use Rattle.compact_carrying.specs.Packing.{number_in}
use Rattle.compact_carrying.proofs.Roots.{Rewriting}
use Rattle.compact_carrying.proofs.numbers.rewrite_roots.Given as goal

abbrev pub invariant-loop-k : goal.invariant-loop-k
invariant-loop-k l = Rewriting (number_in l.walk l.n) l.initial.roots l.roots l.k
