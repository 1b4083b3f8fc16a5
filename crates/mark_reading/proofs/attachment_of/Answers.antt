-- `mark_reading::attachment_of` meets its contract: the two places, and then the anchors. Assumes nothing.
use Rattle.glyph_parts.proofs.Parts.{part_read}
use Rattle.mark_reading.proofs.Attaching.{no_mark_place, no_base_place, places_low, both_places}
use Rattle.mark_reading.proofs.attachment_of.Goals as goal

pub place_below-requires : goal.place_below-requires
place_below-requires c = part_read c.requires.reads.sounds c.requires.coverage

pub returns-in_err-i : goal.returns-in_err-i
returns-in_err-i c =
    let a = c.args in
    rw c.from_residual.ensures (no_mark_place c.requires a.mark a.base _ (c.place_below.ensures a.links.now a.counts) c.in_err-i.was)

pub place_below-requires-2 : goal.place_below-requires-2
place_below-requires-2 c = part_read c.requires.reads.sounds c.requires.base_coverage

pub returns-in_err-j : goal.returns-in_err-j
returns-in_err-j c =
    let a = c.args in
    rw c.from_residual-in_err-j.ensures
    (no_base_place c.requires a.mark a.base _ (c.place_below.ensures a.links.now a.counts) c.in_ok-i.was _
    (c.place_below-2.ensures a.links.now a.counts) c.in_err-j.was)

pub anchors_at-requires : goal.anchors_at-requires
anchors_at-requires c =
    let a = c.args in
    let first = c.place_below.ensures a.links.now a.counts in
    let second = c.place_below-2.ensures a.links.now a.counts in
    record { opens = c.requires; i_bound = places_low c.requires a.mark a.base _ first c.in_ok-i.was _ second c.in_ok-j.was }

pub returns : goal.returns
returns c =
    let a = c.args in
    both_places c.requires a.mark a.base _ (c.place_below.ensures a.links.now a.counts) c.in_ok-i.was _
    (c.place_below-2.ensures a.links.now a.counts) c.in_ok-j.was c.anchors_at.result c.anchors_at.ensures
