-- `place_of` meets its contract: each kind by its function. Assumes nothing.
use Rattle.ot_coverage_reader.proofs.Headers.{as_list_lem, as_ranges_lem}
use Rattle.ot_coverage_reader.proofs.place_of.Goals as goal

pub place_in_list-requires : goal.place_in_list-requires
place_in_list-requires c = as_list_lem _ c.args.header c.requires c.in-List.is

pub place_in_ranges-requires : goal.place_in_ranges-requires
place_in_ranges-requires c = as_ranges_lem _ c.args.header c.requires c.in-Ranges.is
