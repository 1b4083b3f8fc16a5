-- `promise_callers::pairs::split` meets its contract: the split's equation gives what is promised. Assumes nothing.
use Rattle.promise_pairs.proofs.Calls.{split_keeps}
use Rattle.promise_callers.proofs.pairs.split.Goals as goal

pub returns : goal.returns
returns c = split_keeps _ _ _ _ _ _ (λ i. (c.slice_known-1.given i).fits) c.split_pairpos.ensures
