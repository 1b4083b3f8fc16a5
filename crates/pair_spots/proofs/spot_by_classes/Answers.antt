-- `pair_spots::spot_by_classes` meets its contract: by the row, then by the column. Assumes nothing.
use Rattle.store_rules.specs.Store.{lent}
use Rattle.pair_spots.proofs.Finding.{no_row, no_column, in_column}
use Rattle.pair_spots.proofs.spot_by_classes.Goals as goal

pub returns-then-layout-row : goal.returns-then-layout-row
returns-then-layout-row c l k =
    let a = c.args in
    no_row (lent a.«data».now a.objects.now l k) a.table a.opened a.first a.second (c.class_in-row.ensures l k) c.if-layout-row.true

pub returns-then-layout-column : goal.returns-then-layout-column
returns-then-layout-column c l k =
    let a = c.args in
    no_column (lent a.«data».now a.objects.now l k) a.table a.opened a.first a.second
    (c.class_in-row.ensures l k) c.if-layout-row.false
    (c.class_in-column.ensures l k) c.if-layout-column.true

pub returns : goal.returns
returns c l k =
    let a = c.args in
    in_column (lent a.«data».now a.objects.now l k) a.table a.opened a.first a.second (c.class_in-row.ensures l k)
    c.if-layout-row.false (c.class_in-column.ensures l k) c.if-layout-column.false
    c.spot_in_row.ensures
