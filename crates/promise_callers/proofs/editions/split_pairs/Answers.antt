-- `promise_callers::editions::split_pairs` meets its contract: the split's equation gives what edition 2 guarantees. Assumes nothing.
use Rattle.promise_editions.proofs.OfPairs.{pairs_guaranteed}
use Rattle.promise_callers.proofs.editions.split_pairs.Goals as goal

pub returns : goal.returns
returns c = pairs_guaranteed _ _ _ _ _ (λ i. (c.slice_known-1.given i).fits) c.split_pairpos.ensures
