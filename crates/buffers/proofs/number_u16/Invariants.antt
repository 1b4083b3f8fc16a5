-- `buffers::number_u16` meets its contract: the numbers passed hold their indices. Assumes nothing.
use Rattle.buffers.proofs.Filling.{Filling}
use Rattle.buffers.proofs.number_u16.Given as goal

abbrev pub invariant-loop-k : goal.invariant-loop-k
invariant-loop-k l = Filling (λ i. i) l.initial.s l.s l.k
