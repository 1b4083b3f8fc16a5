-- Every definition that a call over a lookup list rests on at once, for checks that compute. Assumes nothing.
use Rattle.ot_layouts.specs.Lookup as Lookup
use Rattle.store_rules.specs.InOrder as InOrder
use Rattle.store_rules.specs.SlotLinks as SlotLinks
use Rattle.pair_rules.specs.Computing as Pairs
use Rattle.lookup_rules.specs.Listed as Listed
use Rattle.lookup_rules.specs.Written as Written
use Rattle.lookup_rules.specs.Applied as Applied
use Rattle.lookup_rules.specs.Calls as Calls

unfoldable pub computes : Unit {0}
unfolding Pairs.computes Lookup.computes InOrder.computes SlotLinks.computes Listed.computes Written.computes Applied.computes Calls.computes
computes = tt
