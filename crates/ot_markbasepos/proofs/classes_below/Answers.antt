-- `ot_markbasepos::classes_below` meets its contract: the numbers of a range, one by one. Assumes nothing.
use Rattle.std.proofs.Common.{ℕ, rules, arith, refl, ◌∙◌}
use Rattle.std.proofs.lemmas.Iterator.{YieldsList-from_range}
use Rattle.std.proofs.lemmas.Iterator.Search.{all_from_yields_List}
use lib.Dec.{ltb}
use borrow.Author.Tests.{tests}
use Rattle.folds.proofs.Ranges.{all_range}
use Rattle.ot_layouts.specs.MarkBasePos.{mark_class}
use Rattle.ot_markbasepos.proofs.classes_below.Goals as goal

pub returns : goal.returns
returns c =
    let n = c.args.marks in
    let below = λ (i : ℕ). ltb (mark_class c.args.array.now i) c.args.classes in
    all_from_yields_List below _ _ c.all.result c.all.ensures.ran (YieldsList-from_range 0 n n refl (omega arith)) (λ x b q k. search (rules, tests))
    ∙ all_range below n
