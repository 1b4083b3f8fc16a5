-- `lookup_new_objects::measure_lookup` meets its contract: the rows of the lookup are counted, and its bytes. Assumes nothing.
use Prim.Native.Nat.{◌*◌, ◌≤◌}
use native.Mathlib.Omega.{arith}
use borrow.Author.Rules.{rules}
use Rattle.lookup_new_objects.proofs.Sizing.{rows_order, bytes_inside, header_there, bytes_most_lem, rows_room_lem, rows_few, entered_few, sized}
use Rattle.lookup_new_objects.proofs.measure_lookup.Goals as goal

pub rows_of-rows-requires : goal.rows_of-rows-requires
rows_of-rows-requires c = let all = rows_order c.requires in record { in_order_lem = all.0; parent_bound = all.1 }

pub count_listings-requires : goal.count_listings-requires
count_listings-requires c = rows_room_lem c.requires c.rows_of-rows.ensures

pub overflow_mul-entered : goal.overflow_mul-entered
overflow_mul-entered c = omega (arith, entered_few c.requires c.rows_of-rows.ensures _ _ c.count_listings.ensures)

pub bytes_of-bytes-requires : goal.bytes_of-bytes-requires
bytes_of-bytes-requires c = bytes_inside c.requires

pub subtable_count-requires : goal.subtable_count-requires
subtable_count-requires c = header_there c.requires (c.bytes_of-bytes.ensures c.args.links.now c.args.counts)

pub overflow_add-result : goal.overflow_add-result
overflow_add-result c =
    let few : c.args.tables * c.count_listings.result ≤ 17179869184 = entered_few c.requires c.rows_of-rows.ensures _ _ c.count_listings.ensures in
    omega (arith, few)

pub overflow_add-result-2 : goal.overflow_add-result-2
overflow_add-result-2 c =
    let few : c.args.tables * c.count_listings.result ≤ 17179869184 = entered_few c.requires c.rows_of-rows.ensures _ _ c.count_listings.ensures in
    omega (arith, few, rows_few c.requires c.rows_of-rows.ensures)

pub overflow_mul-result : goal.overflow_mul-result
overflow_mul-result c =
    let few : c.args.tables * c.count_listings.result ≤ 17179869184 = entered_few c.requires c.rows_of-rows.ensures _ _ c.count_listings.ensures in
    omega (arith, few)

pub overflow_add-result-3 : goal.overflow_add-result-3
overflow_add-result-3 c =
    let few : c.args.tables * c.count_listings.result ≤ 17179869184 = entered_few c.requires c.rows_of-rows.ensures _ _ c.count_listings.ensures in
    omega (arith, few, bytes_most_lem c.requires (c.bytes_of-bytes.ensures c.args.links.now c.args.counts))

pub returns : goal.returns
returns c =
    sized c.requires c.rows_of-rows.ensures _ _ c.count_listings.ensures
    (c.bytes_of-bytes.ensures c.args.links.now c.args.counts) (search rules) c.subtable_count.ensures
