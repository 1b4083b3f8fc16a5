-- `ot_lookup::filters` meets its contract: bit 0010 hex of the flag. Assumes nothing.
use Rattle.ot_layouts.specs.Lookup.{filters}
use Rattle.ot_lookup.proofs.filters.Goals as goal

pub returns : goal.returns
unfolding filters
returns c = rw c.u16_at.ensures
