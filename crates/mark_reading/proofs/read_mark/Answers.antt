-- `mark_reading::read_mark` meets its contract: by what the checks say, and then by the two glyphs. Assumes nothing.
use Rattle.store_rules.specs.Store.{lent}
use Rattle.mark_reading.proofs.Calling.{refused, told}
use Rattle.mark_reading.proofs.read_mark.Goals as goal

pub attachment_of-attachment-requires : goal.attachment_of-attachment-requires
attachment_of-attachment-requires c = c.check_table-checked.ensures.opens _ c.in-Ok.is

pub returns-in-Err : goal.returns-in-Err
returns-in-Err c =
    let a = c.args in
    refused (lent a.«data».now a.objects.now a.links.now a.counts) a.table a.mark a.base
    c.check_table-checked.result c.check_table-checked.ensures c.in-Err.is c.from.ensures c.report.ensures

pub returns-in-Ok : goal.returns-in-Ok
returns-in-Ok c =
    let a = c.args in
    told (lent a.«data».now a.objects.now a.links.now a.counts) a.table a.mark a.base
    c.check_table-checked.result c.check_table-checked.ensures c.in-Ok.is
    c.attachment_of-attachment.result c.attachment_of-attachment.ensures c.report-in-Ok.ensures
