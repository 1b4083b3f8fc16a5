-- `lookup_checks::fitting::is_rewritten` meets its contract: its type, and then its rows. Assumes nothing.
use Rattle.store_rules.specs.Store.{lent}
use Rattle.lookup_checks.proofs.Objects.{use_fits, lies, searchable, rows_in_lem, good_long, of_others, rows_decide}
use mathlib.Core.Path.{ap}
use mathlib.Core.Bool.{not}
use Rattle.lookup_checks.proofs.fitting.is_rewritten.Goals as goal

pub bytes_of-bytes-requires : goal.bytes_of-bytes-requires
bytes_of-bytes-requires c = lies c.requires.object_in_use

pub is_of_pairs-requires : goal.is_of_pairs-requires
is_of_pairs-requires c =
    let a = c.args in
    let s = lent a.«data».now a.objects.now a.links.now a.counts in
    good_long s a.lookup a.table (c.bytes_of-bytes.ensures a.links.now a.counts) c.requires.lookup_value

pub returns-then-not-is_of_pairs : goal.returns-then-not-is_of_pairs
returns-then-not-is_of_pairs c =
    let a = c.args in
    let s = lent a.«data».now a.objects.now a.links.now a.counts in
    of_others s a.lookup a.table (c.bytes_of-bytes.ensures a.links.now a.counts) c.is_of_pairs.ensures (ap not c.if-not-is_of_pairs.true)

pub rows_of-rows-requires : goal.rows_of-rows-requires
rows_of-rows-requires c = let all = searchable c.requires.object_in_use in record { in_order_lem = all.0; parent_bound = all.1 }

pub rows_lead_to-requires : goal.rows_lead_to-requires
rows_lead_to-requires c = rows_in_lem (use_fits c.requires.object_in_use) c.rows_of-rows.ensures

pub returns : goal.returns
returns c =
    let a = c.args in
    let s = lent a.«data».now a.objects.now a.links.now a.counts in
    rows_decide s a.lookup a.table (c.bytes_of-bytes.ensures a.links.now a.counts) c.is_of_pairs.ensures (ap not c.if-not-is_of_pairs.false)
    (use_fits c.requires.object_in_use) c.requires.lookup_value c.rows_of-rows.ensures c.rows_lead_to.ensures
