-- `call::check_call` meets its contract: by what the checks 1 to 5 decide. Assumes nothing.
use Rattle.std.proofs.lemmas.Result.{err_from_is_err_and}
use Rattle.store_rules.specs.Store.{lent}
use Rattle.pair_checks.proofs.Called.{is_open, call_settled, call_open}
use Rattle.pair_checks.proofs.call.check_call.Goals as goal

pub check_lent-requires : goal.check_lent-requires
check_lent-requires c =
    let a = c.args in
    (a.«data».now, a.objects.now, is_open (lent a.«data».now a.objects.now a.links.now a.counts) a.table c.check_sound_table.ensures c.in_ok-opened.was)

pub returns-in_err-opened : goal.returns-in_err-opened
returns-in_err-opened c =
    let p = err_from_is_err_and c.from_residual.result c.from_residual.ensures.1 in
    let a = c.args in
    rw (p.1, p.2)
    (call_settled (lent a.«data».now a.objects.now a.links.now a.counts) a.table c.check_sound_table.ensures a.lengths c.in_err-opened.was)

pub returns : goal.returns
returns c =
    let a = c.args in
    call_open (lent a.«data».now a.objects.now a.links.now a.counts) a.table c.check_sound_table.ensures a.lengths c.in_ok-opened.was
    (c.check_lent.ensures a.«data».now a.objects.now)
