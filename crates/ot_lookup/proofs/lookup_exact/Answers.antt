-- `ot_lookup::lookup_exact` meets its contract: the count and the flag say how long. Assumes nothing.
use borrow.Author.Rules.{rules}
use Rattle.ot_layouts.specs.Lookup.{lookup_exact}
use Rattle.ot_lookup.proofs.Tests.{lookup_short}
use Rattle.ot_lookup.proofs.lookup_exact.Goals as goal

pub returns-then-lookup-lt6 : goal.returns-then-lookup-lt6
returns-then-lookup-lt6 c = lookup_short _ (search rules)

pub returns : goal.returns
unfolding lookup_exact
returns c = rw (c.from-subtables.ensures, c.subtable_count.ensures, c.from-set.ensures, c.filters.ensures)
