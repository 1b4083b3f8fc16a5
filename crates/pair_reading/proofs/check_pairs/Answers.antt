-- `pair_reading::check_pairs` meets its contract: by what 1 to 5 decide. Assumes nothing.
use Rattle.std.proofs.lemmas.Result.{err_from_is_err_and}
use mathlib.Core.Path.{sym, ap, ◌∙◌}
use Rattle.store_rules.specs.Store.{lent}
use Rattle.call_rules.specs.Answers.{numbered}
use Rattle.pair_reading.proofs.Checking.{still_settled}
use Rattle.pair_reading.proofs.check_pairs.Goals as goal

pub check_sorted-requires : goal.check_sorted-requires
check_sorted-requires c = sym c.check_table.ensures ∙ ap numbered c.in_ok-opened.was

pub returns-in_err-opened : goal.returns-in_err-opened
returns-in_err-opened c =
    let a = c.args in
    let p = err_from_is_err_and c.from_residual.result c.from_residual.ensures.1 in
    rw (p.1, p.2) (still_settled (lent a.«data».now a.objects.now a.links.now a.counts) a.table c.check_table.ensures c.in_err-opened.was)
