-- `pair_reading::read_pair` meets its contract: by what the checks decide. Assumes nothing.
use mathlib.Core.Path.{sym, ap, ◌∙◌}
use Rattle.store_rules.specs.Store.{lent}
use Rattle.call_rules.specs.Answers.{numbered}
use Rattle.pair_reading.proofs.Checking.{is_open}
use Rattle.pair_reading.proofs.Answering.{settled_call, open_call}
use Rattle.pair_reading.proofs.read_pair.Goals as goal

pub pair_of-pair-requires : goal.pair_of-pair-requires
pair_of-pair-requires c =
    let a = c.args in let all = is_open (lent a.«data».now a.objects.now a.links.now a.counts) a.table
    (sym c.check_pairs-checked.ensures ∙ ap numbered c.in-Ok.is) in record { table_value = all.0; table_value_2 = all.1 }

pub returns-in-Err : goal.returns-in-Err
returns-in-Err c =
    let a = c.args in
    settled_call (lent a.«data».now a.objects.now a.links.now a.counts) a.table a.first a.second
    c.check_pairs-checked.ensures c.in-Err.is
    c.from.ensures c.no_pair.ensures c.report.ensures

pub returns-in-Ok : goal.returns-in-Ok
returns-in-Ok c =
    let a = c.args in
    open_call (lent a.«data».now a.objects.now a.links.now a.counts) a.table a.first a.second c.check_pairs-checked.ensures c.in-Ok.is c.pair_of-pair.ensures c.report-in-Ok.ensures
