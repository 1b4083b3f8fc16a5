-- `lookup_links::enter_links` meets its contract: the links of the new lookups before m are written. Assumes nothing.
use Rattle.lookup_links.proofs.Entering.{all_start, all_stop, lookup_ready, all-turn}
use Rattle.lookup_links.proofs.enter_links.Goals as goal

pub loop-m-init : goal.loop-m-init
loop-m-init c = all_start _ _ _ _ _ _ c.requires

pub enter_lookup-next-requires : goal.enter_lookup-next-requires
enter_lookup-next-requires c = lookup_ready _ _ _ _ _ _ _ _ _ c.loop-m.invariant c.loop-m-test.true c.requires

pub loop-m-preserved : goal.loop-m-preserved
loop-m-preserved c = all-turn _ _ _ _ _ _ _ _ _ c.loop-m.invariant c.loop-m-test.true c.enter_lookup-next.ensures

pub returns : goal.returns
returns c = all_stop _ _ _ _ _ _ _ _ _ c.loop-m.invariant c.loop-m-test.false
