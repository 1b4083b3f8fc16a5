-- `buffers::zero_bytes` meets its contract: the part is filled. Assumes nothing.
use mathlib.Core.Path.{refl}
use Rattle.buffers.proofs.Putting.{filled}
use Rattle.buffers.proofs.zero_bytes.Goals as goal

pub returns : goal.returns
returns c = filled _ _ _ refl c.requires 0 (c.fill.ensures.after (λ y e. e))
