-- `mark_checks::call::check_call` meets its contract: 1 to 5, and then what is lent. Assumes nothing.
use Rattle.std.proofs.lemmas.Result.{err_from_is_err_and}
use Rattle.mark_checks.proofs.Calling.{call_settled}
use Rattle.mark_checks.proofs.call.check_call.Goals as goal

pub check_lent-requires : goal.check_lent-requires
check_lent-requires c =
    let a = c.args in
    (a.«data».now, a.objects.now, c.check_table.ensures.opens _ c.in_ok-opened.was)

pub returns-in_err-opened : goal.returns-in_err-opened
returns-in_err-opened c =
    let p = err_from_is_err_and c.from_residual.result c.from_residual.ensures.1 in
    rw (p.1, p.2) (call_settled c.check_table.ensures c.in_err-opened.was)

pub returns : goal.returns
returns c =
    let a = c.args in
    c.check_lent.ensures a.«data».now a.objects.now (c.check_table.ensures.opens _ c.in_ok-opened.was)
