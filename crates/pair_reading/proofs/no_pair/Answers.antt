-- `pair_reading::no_pair` meets its contract: sixteen zeros. Assumes nothing.
use mathlib.Core.Path.{refl}
use Rattle.pair_rules.specs.Pairs.{no_pair}
use Rattle.pair_reading.proofs.no_pair.Goals as goal

pub returns : goal.returns
unfolding no_pair
returns c = refl
