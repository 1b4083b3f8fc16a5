-- `mark_checks::check_table` meets its contract: 1 to 3 are asked in their order, and then the parts. Assumes nothing.
use Rattle.store_rules.specs.Store.{lent}
use Rattle.mark_checks.proofs.Deciding.{is_unsound, is_unused, table_inside, is_short_lem, is_other, is_long, is_known}
use mathlib.Core.Path.{ap}
use mathlib.Core.Bool.{not}
use Rattle.mark_checks.proofs.check_table.Goals as goal

pub returns-then-not-is_sound : goal.returns-then-not-is_sound
returns-then-not-is_sound c =
    let a = c.args in
    is_unsound (lent a.«data».now a.objects.now a.links.now a.counts) a.table c.is_sound.ensures (ap not c.if-not-is_sound.true)

pub returns-then-counts-table : goal.returns-then-counts-table
returns-then-counts-table c =
    let a = c.args in
    is_unused (lent a.«data».now a.objects.now a.links.now a.counts) a.table c.is_sound.ensures (ap not c.if-not-is_sound.false) c.if-counts-table.true

pub bytes_of-bytes-requires : goal.bytes_of-bytes-requires
bytes_of-bytes-requires c =
    let a = c.args in
    table_inside (lent a.«data».now a.objects.now a.links.now a.counts) a.table c.is_sound.ensures (ap not c.if-not-is_sound.false) c.if-counts-table.false

pub returns-then-bytes-lt2 : goal.returns-then-bytes-lt2
returns-then-bytes-lt2 c =
    let a = c.args in
    is_short_lem (lent a.«data».now a.objects.now a.links.now a.counts) a.table c.is_sound.ensures (ap not c.if-not-is_sound.false) c.if-counts-table.false
    (c.bytes_of-bytes.ensures a.links.now a.counts) c.if-bytes-lt2.true

pub returns-then-u16_at-ne1 : goal.returns-then-u16_at-ne1
returns-then-u16_at-ne1 c =
    let a = c.args in
    is_other (lent a.«data».now a.objects.now a.links.now a.counts) a.table c.is_sound.ensures (ap not c.if-not-is_sound.false) c.if-counts-table.false
    (c.bytes_of-bytes.ensures a.links.now a.counts) c.if-bytes-lt2.false c.u16_at.ensures c.if-u16_at-ne1.true

pub returns-then-bytes-ne12 : goal.returns-then-bytes-ne12
returns-then-bytes-ne12 c =
    let a = c.args in
    is_long (lent a.«data».now a.objects.now a.links.now a.counts) a.table c.is_sound.ensures (ap not c.if-not-is_sound.false) c.if-counts-table.false
    (c.bytes_of-bytes.ensures a.links.now a.counts) c.if-bytes-lt2.false c.u16_at.ensures c.if-u16_at-ne1.false c.if-bytes-ne12.true

pub check_parts-requires : goal.check_parts-requires
check_parts-requires c =
    let a = c.args in
    is_known (lent a.«data».now a.objects.now a.links.now a.counts) a.table c.is_sound.ensures (ap not c.if-not-is_sound.false) c.if-counts-table.false
    (c.bytes_of-bytes.ensures a.links.now a.counts) c.if-bytes-lt2.false c.u16_at.ensures c.if-u16_at-ne1.false
    c.if-bytes-ne12.false c.u16_at-classes.ensures

pub returns : goal.returns
returns c = c.check_parts.ensures
