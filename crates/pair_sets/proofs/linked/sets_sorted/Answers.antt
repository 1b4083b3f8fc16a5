-- `pair_sets::linked::sets_sorted` meets its contract: a table of format 2 has no pair sets, and in format 1 its own rows decide. Assumes nothing.
use mathlib.Core.Path.{sym, subst}
use Prim.Native.Nat.{ℕ, ◌<◌}
use native.Mathlib.Omega.{arith}
use Rattle.folds.proofs.Fronts.{front_long}
use Rattle.store_rules.specs.Store.{lent}
use Rattle.store_reader.proofs.Rows.{rows_in_order}
use Rattle.pair_sets.specs.Marked.{RowLeads}
use Rattle.pair_sets.proofs.Slots.{table_small, row_inside, row_leads, objects_inside, no_pair_sets, by_rows}
use Rattle.pair_sets.proofs.linked.sets_sorted.Goals as goal

pub returns-then-layout-ne1 : goal.returns-then-layout-ne1
returns-then-layout-ne1 c =
    let a = c.args in
    no_pair_sets (lent a.«data».now a.objects.now a.links.now a.counts) a.table c.requires.reads c.requires.layout_value.0 c.if-layout-ne1.true

pub rows_of-rows-requires : goal.rows_of-rows-requires
rows_of-rows-requires c =
    let a = c.args in
    let s = lent a.«data».now a.objects.now a.links.now a.counts in
    record { in_order_lem = rows_in_order s c.requires.reads.sounds; parent_bound = table_small s a.table c.requires.reads }

pub rows_sorted-requires : goal.rows_sorted-requires
rows_sorted-requires c = let a = c.args in record { by_index = λ k l. row_inside (lent a.«data».now a.objects.now a.links.now a.counts) a.table c.requires.reads k (omega (arith, c.rows_of-rows.ensures.after.within)); first_le_after = (c.rows_of-rows.ensures.rise, c.record_size-size.ensures.1, c.requires.layout_value.1) }

pub returns-then-seen-count : goal.returns-then-seen-count
returns-then-seen-count c =
    let a = c.args in
    by_rows (lent a.«data».now a.objects.now a.links.now a.counts) a.table c.requires.reads c.requires.layout_value.0 c.if-layout-ne1.false
    c.rows_of-rows.ensures c.record_size-size.ensures.0 (c.rows_sorted.ensures a.counts)

pub sorted_in_order-requires : goal.sorted_in_order-requires
sorted_in_order-requires c =
    let a = c.args in
    let s = lent a.«data».now a.objects.now a.links.now a.counts in
    let long = front_long a.seen.now s.object_count c.if-seen-count.false in record { by_index = (λ k l. subst (λ (n : ℕ). RowLeads s.links n k) (sym long) (row_leads s a.table c.requires.reads k (omega (arith, c.rows_of-rows.ensures.after.within))), c.rows_of-rows.ensures.rise); by_index_2 = (λ i l. objects_inside s a.table c.requires.reads i (subst (λ (n : ℕ). i < n) long l), c.record_size-size.ensures.1) }

pub returns : goal.returns
returns c =
    let a = c.args in
    by_rows (lent a.«data».now a.objects.now a.links.now a.counts) a.table c.requires.reads c.requires.layout_value.0 c.if-layout-ne1.false
    c.rows_of-rows.ensures c.record_size-size.ensures.0 (c.sorted_in_order.ensures a.counts)
