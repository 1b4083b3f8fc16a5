-- `cut_filling::Filling::is_due` meets its contract: the sum is tested first, and only where it is too large the edition. Assumes nothing.
use mathlib.Core.Path.{sym}
use borrow.Author.Rules.{rules}
use Rattle.cut_filling.proofs.Weighing.{not-due, due_second, due_first}
use Rattle.cut_filling.proofs.Filling.is_due.Goals as goal

pub returns-then-self-cost-le65535 : goal.returns-then-self-cost-le65535
returns-then-self-cost-le65535 c r k e b w =
    let a = c.args in
    sym (not-due a.self a.i a.cost a.beside a.edition r k e b w (search rules))

pub returns-then-edition-eq2 : goal.returns-then-edition-eq2
returns-then-edition-eq2 c r k e b w =
    let a = c.args in
    sym (due_second a.self a.i a.cost a.beside a.edition r k e b w (search rules) (search rules))

pub returns : goal.returns
returns c r k e b w =
    let a = c.args in
    sym (due_first a.self a.i a.cost a.beside a.edition r k e b w (search rules) c.if-edition-eq2.false)
