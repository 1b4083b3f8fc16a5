-- `pair_sets::linked::place_of` meets its contract: a remainder is below its divisor. Assumes nothing.
use native.Mathlib.Nat.{mod-lt}
use Rattle.pair_sets.proofs.linked.place_of.Goals as goal

pub returns : goal.returns
returns c = mod-lt c.args.set c.requires
