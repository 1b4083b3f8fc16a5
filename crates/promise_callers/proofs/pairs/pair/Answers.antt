-- `promise_callers::pairs::pair` meets its contract: the pair reading's equation gives what is promised. Assumes nothing.
use Rattle.promise_pairs.proofs.Calls.{pair_keeps}
use Rattle.promise_callers.proofs.pairs.pair.Goals as goal

pub returns : goal.returns
returns c = pair_keeps _ _ _ _ _ c.read_pair.ensures
