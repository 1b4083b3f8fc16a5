-- `cut_filling::Filling::add` meets its contract: the sum goes on. Assumes nothing.
use Rattle.cut_filling.proofs.Weighing.{adding}
use Rattle.cut_filling.proofs.Filling.add.Goals as goal

pub returns : goal.returns
returns c = let a = c.args in adding a.self a.cost
