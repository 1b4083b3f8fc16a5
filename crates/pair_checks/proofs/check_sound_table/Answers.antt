-- `pair_checks::check_sound_table` meets its contract: 2, then by what opening the table answers. Assumes nothing.
use mathlib.Core.Path.{refl}
use Rattle.store_rules.specs.Store.{lent}
use Rattle.pair_checks.proofs.Deciding.{no_table_lem, table_inside, by_opened}
use Rattle.pair_checks.proofs.check_sound_table.Goals as goal

pub returns-then-counts-table : goal.returns-then-counts-table
returns-then-counts-table c =
    let a = c.args in
    no_table_lem (lent a.«data».now a.objects.now a.links.now a.counts) a.table c.requires c.if-counts-table.true

pub bytes_of-requires : goal.bytes_of-requires
bytes_of-requires c =
    let a = c.args in
    table_inside (lent a.«data».now a.objects.now a.links.now a.counts) a.table c.requires c.if-counts-table.false

pub returns-in-Bad : goal.returns-in-Bad
returns-in-Bad c =
    let a = c.args in
    by_opened (lent a.«data».now a.objects.now a.links.now a.counts) a.table c.requires c.if-counts-table.false
    (c.bytes_of.ensures a.links.now a.counts) c.open-opened.ensures c.in-Bad.is refl

pub returns-in-Other : goal.returns-in-Other
returns-in-Other c =
    let a = c.args in
    by_opened (lent a.«data».now a.objects.now a.links.now a.counts) a.table c.requires c.if-counts-table.false
    (c.bytes_of.ensures a.links.now a.counts) c.open-opened.ensures c.in-Other.is refl

pub returns-in-Pair : goal.returns-in-Pair
returns-in-Pair c =
    let a = c.args in
    by_opened (lent a.«data».now a.objects.now a.links.now a.counts) a.table c.requires
    c.if-counts-table.false (c.bytes_of.ensures a.links.now a.counts)
    c.open-opened.ensures c.in-Pair.is c.check_parts.ensures
