-- `cut_filling::Filling::new` meets its contract: no item is in, and there is no cut. Assumes nothing.
use Rattle.cut_filling.proofs.Weighing.{nothing_yet}
use Rattle.cut_filling.proofs.Filling.new.Goals as goal

pub returns : goal.returns
returns c r e = nothing_yet r c.args.start e
