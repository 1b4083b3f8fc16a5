-- `promise_callers::lookups::enter` meets its contract: the call's equation gives what is promised. Assumes nothing.
use Rattle.promise_lookups.proofs.Calls.{lookup_keeps}
use Rattle.promise_callers.proofs.lookups.enter.Goals as goal

pub returns : goal.returns
returns c = lookup_keeps _ _ _ _ _ _ _ (λ i. (c.slice_known-1.given i).fits) c.split_in_lookups.ensures
