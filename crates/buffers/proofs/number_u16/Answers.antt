-- `buffers::number_u16` meets its contract: the numbers passed hold their indices. Assumes nothing.
use mathlib.Core.Path.{refl}
use borrow.Author.Rules.{rules}
use Rattle.buffers.proofs.Filling.{fill_start, fill_turn, fill_stop}
use Rattle.buffers.proofs.number_u16.Goals as goal

pub loop-k-init : goal.loop-k-init
loop-k-init c = fill_start (λ i. i) c.args.s.now

pub loop-k-preserved : goal.loop-k-preserved
loop-k-preserved c = fill_turn (λ i. i) c.args.s.now c.loop-k.s c.loop-k.k c.loop-k.invariant (search rules) refl

pub returns : goal.returns
returns c = fill_stop (λ i. i) c.args.s.now c.loop-k.s c.loop-k.k c.loop-k.invariant (search rules)
