-- `pair_spots::spot_of` meets its contract: the first glyph is covered, and then by the format. Assumes nothing.
use Rattle.store_rules.specs.Store.{lent}
use Rattle.pair_checks.proofs.Refusals.{opens}
use Rattle.pair_spots.proofs.Finding.{coverage_part, class1_part, class2_part, unit_small, not_covered, slot_sorted_lem, by_its_set, by_its_classes}
use Rattle.pair_spots.proofs.spot_of.Goals as goal

pub place_in-requires : goal.place_in-requires
place_in-requires c =
    let a = c.args in
    coverage_part (opens (lent a.«data».now a.objects.now a.links.now a.counts) a.table a.opened c.requires.table_value)

pub returns-in_err-k : goal.returns-in_err-k
returns-in_err-k c =
    let a = c.args in
    let o = opens (lent a.«data».now a.objects.now a.links.now a.counts) a.table a.opened c.requires.table_value in
    rw c.from_residual.ensures (not_covered o a.first a.second (c.place_in.ensures a.links.now a.counts) c.in_err-k.was)

pub spot_by_set-requires : goal.spot_by_set-requires
spot_by_set-requires c =
    let a = c.args in
    let o = opens (lent a.«data».now a.objects.now a.links.now a.counts) a.table a.opened c.requires.table_value in
    let place = c.place_in.ensures a.links.now a.counts in
    (o.reads.sounds, slot_sorted_lem o a.first a.second place c.in_ok-k.was c.if-layout-eq1.true c.requires.table_value_2)

pub returns-then-layout-eq1 : goal.returns-then-layout-eq1
returns-then-layout-eq1 c =
    let a = c.args in
    by_its_set (opens (lent a.«data».now a.objects.now a.links.now a.counts) a.table a.opened c.requires.table_value) a.first
    a.second (c.place_in.ensures a.links.now a.counts) c.in_ok-k.was
    c.if-layout-eq1.true c.spot_by_set.ensures

pub spot_by_classes-requires : goal.spot_by_classes-requires
spot_by_classes-requires c =
    let a = c.args in
    let o = opens (lent a.«data».now a.objects.now a.links.now a.counts) a.table a.opened c.requires.table_value in
    let two = c.if-layout-eq1.false in
    record { unit_bound = unit_small o two; read_part = class1_part o two; read_part_2 = class2_part o two }

pub returns-else-layout-eq1 : goal.returns-else-layout-eq1
returns-else-layout-eq1 c =
    let a = c.args in
    by_its_classes (opens (lent a.«data».now a.objects.now a.links.now a.counts) a.table a.opened c.requires.table_value) a.first
    a.second (c.place_in.ensures a.links.now a.counts) c.in_ok-k.was
    c.if-layout-eq1.false (c.spot_by_classes.ensures a.links.now a.counts)
