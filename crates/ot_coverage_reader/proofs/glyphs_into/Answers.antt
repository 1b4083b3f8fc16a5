-- `glyphs_into` meets its contract: each kind by its function. Assumes nothing.
use mathlib.Core.Path.{ap}
use native.Mathlib.Omega.{arith}
use lib.ListN.{length}
use Rattle.folds.proofs.Folds.{length-upto}
use Rattle.ot_layouts.specs.Coverage.{glyph_at}
use Rattle.ot_layouts.proofs.CoverageRead.{header_list}
use Rattle.ot_coverage_reader.proofs.Headers.{as_list_lem, as_ranges_lem}
use Rattle.ot_coverage_reader.proofs.glyphs_into.Goals as goal

pub list_into-requires : goal.list_into-requires
list_into-requires c = let r = header_list _ c.args.header c.requires.part_value c.in-List.is in record { as_list = as_list_lem _ c.args.header c.requires.part_value c.in-List.is; count_in_bounds = omega (arith, ap length r.glyphs, length-upto (glyph_at c.args.part.now) c.args.header.count) }

pub ranges_into-requires : goal.ranges_into-requires
ranges_into-requires c = record { as_ranges = as_ranges_lem _ c.args.header c.requires.part_value c.in-Ranges.is; part_in_bounds = c.requires.part_in_bounds }
