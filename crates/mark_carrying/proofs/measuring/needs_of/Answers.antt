-- `measuring::needs_of` meets its contract. Assumes nothing.
use Rattle.mark_carrying.proofs.Counting.{counted}
use Rattle.mark_carrying.proofs.measuring.needs_of.Goals as goal

pub returns : goal.returns
returns c = counted c.args.cuts c.args.links c.args.bytes
