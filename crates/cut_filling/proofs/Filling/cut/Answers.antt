-- `cut_filling::Filling::cut` meets its contract: the item is listed, and the sum restarts with it. Assumes nothing.
use borrow.Author.Rules.{rules}
use Rattle.cut_filling.proofs.Weighing.{cutting}
use Rattle.cut_filling.proofs.Filling.cut.Goals as goal

pub returns : goal.returns
returns c r k d x s b w =
    let a = c.args in
    cutting a.self a.i a.cost a.start a.cuts.now r k d x s b w (search rules)
