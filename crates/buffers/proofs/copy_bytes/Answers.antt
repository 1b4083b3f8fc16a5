-- `buffers::copy_bytes` meets its contract: what is copied is a part of the list. Assumes nothing.
use mathlib.Core.Path.{◌∙◌}
use Rattle.buffers.proofs.Putting.{copied}
use Rattle.buffers.proofs.copy_bytes.Goals as goal

pub returns : goal.returns
returns c = c.copy_within.ensures.after ∙ copied _ _ _ _ c.requires.from_in_bounds
