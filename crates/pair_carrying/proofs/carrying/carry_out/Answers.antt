-- `carrying::carry_out` meets its contract: bytes, object rows, link rows and list are those after the split, and then the counts. Assumes nothing.
use native.Mathlib.Omega.{arith}
use Rattle.pair_carrying.proofs.StoreAfter.{own_few, bytes_asked, links_asked, links_then, list_asked, bytes_fit, objects_fit_lem, links_fit_lem, carried}
use Rattle.pair_carrying.proofs.carrying.carry_out.Goals as goal

pub write_bytes-bytes-requires : goal.write_bytes-bytes-requires
write_bytes-bytes-requires c = (c.args.links.now, bytes_asked c.requires (λ i. (c.slice_known-1.given i).fits))

pub part_links-rows-requires : goal.part_links-rows-requires
part_links-rows-requires c = links_asked c.args.counts.now c.requires

pub overflow_add-layout : goal.overflow_add-layout
overflow_add-layout c = omega (arith, own_few c.requires)

pub number_tables-requires : goal.number_tables-requires
number_tables-requires c = list_asked c.requires

pub overflow_cast-byte_count : goal.overflow_cast-byte_count
overflow_cast-byte_count c = omega (arith, bytes_fit c.requires (c.write_bytes-bytes.ensures _ (bytes_asked c.requires (λ i. (c.slice_known-1.given i).fits))))

pub overflow_cast-object_count : goal.overflow_cast-object_count
overflow_cast-object_count c = omega (arith, objects_fit_lem c.requires)

pub overflow_add-object_count : goal.overflow_add-object_count
overflow_add-object_count c = omega (arith, objects_fit_lem c.requires)

pub overflow_cast-link_count : goal.overflow_cast-link_count
overflow_cast-link_count c = omega (arith, links_fit_lem c.requires (links_then c.args.counts.now c.requires c.part_links-rows.ensures))

pub returns : goal.returns
returns c =
    carried c.requires (c.write_bytes-bytes.ensures _ (bytes_asked c.requires (λ i. (c.slice_known-1.given i).fits)))
    (links_then c.args.counts.now c.requires c.part_links-rows.ensures)
    c.number_tables.ensures
