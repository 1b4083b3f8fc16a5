-- `call_lists::copy_places` meets its contract: the places passed stand at the front. Assumes nothing.
use Rattle.call_lists.proofs.Copying.{Copying}
use Rattle.call_lists.proofs.copy_places.Given as goal

abbrev pub invariant-loop-k : goal.invariant-loop-k
invariant-loop-k l = Copying l.cuts l.initial.places l.places l.k
