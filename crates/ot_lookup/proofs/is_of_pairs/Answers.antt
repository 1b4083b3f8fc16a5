-- `ot_lookup::is_of_pairs` meets its contract. Assumes nothing.
use Rattle.ot_lookup.proofs.is_of_pairs.Goals as goal

pub returns : goal.returns
returns c = rw c.u16_at.ensures
