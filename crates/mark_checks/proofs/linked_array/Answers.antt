-- `mark_checks::linked_array` meets its contract: what the look for the link and the array's bytes ask for. Assumes nothing.
use mathlib.Core.Path.{sym}
use Rattle.store_rules.specs.Store.{lent}
use Rattle.store_reader.proofs.Rows.{rows_in_order}
use Rattle.mark_checks.proofs.Arrays.{array_inside, readable_long}
use Rattle.mark_checks.proofs.linked_array.Goals as goal

pub child_at-requires : goal.child_at-requires
child_at-requires c =
    let a = c.args in
    rows_in_order (lent a.«data».now a.objects.now a.links.now a.counts) c.requires.0

pub bytes_of-array-requires : goal.bytes_of-array-requires
bytes_of-array-requires c =
    let a = c.args in
    array_inside a.kind (lent a.«data».now a.objects.now a.links.now a.counts) a.table c.requires.1
    (c.child_at.ensures a.«data».now a.objects.now) c.in_ok-object.was c.requires.0

pub u16_at-requires : goal.u16_at-requires
u16_at-requires c = readable_long c.args.kind c.args.classes _ (sym c.if-not-array_readable.ensures)
