-- `pair_checks::check_parts` meets its contract: the coverage that was found can be read. Assumes nothing.
use Rattle.glyph_parts.proofs.Parts.{linked_part_lem, part_read}
use Rattle.pair_checks.proofs.check_parts.Goals as goal

pub glyphs_of-glyphs-requires : goal.glyphs_of-glyphs-requires
glyphs_of-glyphs-requires c = part_read c.requires (linked_part_lem c.linked_part-linked.ensures c.in_ok-coverage.ensures.ok_part)
