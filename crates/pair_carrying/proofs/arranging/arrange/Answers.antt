-- `arranging::arrange` meets its contract: by format, places are numbered, or the glyphs of each table are put in order. Assumes nothing.
use Rattle.pair_carrying.proofs.ByTable.{coverage_inside, cover_ready, few_places, by_place, by_class_lem, by_parts}
use Rattle.pair_carrying.proofs.arranging.arrange.Goals as goal

pub bytes_of-requires : goal.bytes_of-requires
bytes_of-requires c =
    let (l, n, t, k) = c.requires in
    coverage_inside k

pub glyphs_into-requires : goal.glyphs_into-requires
glyphs_into-requires c =
    let (l, n, t, k) = c.requires in let all = cover_ready k (c.bytes_of.ensures l n) in record { part_value = all.0; part_in_bounds = all.1 }

pub number_u16-requires : goal.number_u16-requires
number_u16-requires c =
    let (l, n, t, k) = c.requires in
    few_places k (c.bytes_of.ensures l n) c.glyphs_into.ensures (λ i. (c.slice_known-then-layout-eq1-1.given i).fits)

pub returns-then-layout-eq1 : goal.returns-then-layout-eq1
returns-then-layout-eq1 c l n t k =
    by_place k (c.bytes_of.ensures l n) c.glyphs_into.ensures c.if-layout-eq1.true
    (λ i. (c.shared_slice_known-1.given i).fits) c.number_u16.ensures

pub order_parts-requires : goal.order_parts-requires
order_parts-requires c =
    let (l, n, t, k) = c.requires in
    by_class_lem k c.if-layout-eq1.false (λ i. (c.shared_slice_known-1.given i).fits)

pub returns : goal.returns
returns c l n t k = by_parts k c.if-layout-eq1.false (λ i. (c.shared_slice_known-1.given i).fits) c.order_parts.ensures
