-- `call_lists::copy_places` meets its contract: the places passed stand at the front. Assumes nothing.
use Rattle.call_lists.proofs.Copying.{copy_start, copy_turn, copy_stop}
use Rattle.call_lists.proofs.copy_places.Goals as goal

pub loop-k-init : goal.loop-k-init
loop-k-init c = copy_start c.args.cuts.now c.args.places.now c.requires

pub loop-k-preserved : goal.loop-k-preserved
loop-k-preserved c = copy_turn c.args.cuts.now c.args.places.now c.requires c.loop-k.places c.loop-k.k c.loop-k.invariant c.loop-k-test.true

pub returns : goal.returns
returns c = copy_stop c.args.cuts.now c.args.places.now c.requires c.loop-k.places c.loop-k.k c.loop-k.invariant c.loop-k-test.false
