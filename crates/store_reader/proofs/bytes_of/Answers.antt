-- `store_reader::bytes_of` meets its contract: from head to tail is the part that the definition takes. Assumes nothing.
use mathlib.Core.Path.{refl}
use Rattle.store_rules.specs.Store.{bytes_of}
use Rattle.store_reader.proofs.bytes_of.Goals as goal

pub returns : goal.returns
unfolding bytes_of
returns c = λ l c'. refl
