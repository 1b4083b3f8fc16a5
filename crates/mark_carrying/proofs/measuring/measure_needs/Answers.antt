-- `measuring::measure_needs` meets its contract: the marks are arranged, the new objects counted from them, and the links from the old arrays. Assumes nothing.
use Rattle.mark_checks.proofs.AtSlots.{opened_in_order, marks_small, bases_small}
use Rattle.mark_carrying.proofs.Counting.{few_links, planned, few_cuts, measured}
use Rattle.mark_carrying.proofs.measuring.measure_needs.Goals as goal

pub arrange_glyphs-requires : goal.arrange_glyphs-requires
arrange_glyphs-requires c =
    let (t, k) = c.requires in
    (c.args.links.now, c.args.counts, t, k)

pub new_length-bytes-requires : goal.new_length-bytes-requires
new_length-bytes-requires c =
    let (t, k) = c.requires in
    let a = c.args in
    planned k (λ i. (c.shared_slice_known-1.given i).fits) (c.arrange_glyphs.ensures a.links.now a.counts t k)

pub links_from-of_marks-requires : goal.links_from-of_marks-requires
links_from-of_marks-requires c =
    let (t, k) = c.requires in
    (opened_in_order k.opens, marks_small k.opens)

pub links_from-of_bases-requires : goal.links_from-of_bases-requires
links_from-of_bases-requires c =
    let (t, k) = c.requires in
    (opened_in_order k.opens, bases_small k.opens)

pub needs_of-requires : goal.needs_of-requires
needs_of-requires c =
    let (t, k) = c.requires in
    let a = c.args in (
      few_cuts k (λ i. (c.shared_slice_known-1.given i).fits) (c.arrange_glyphs.ensures a.links.now a.counts t k),
      few_links k.opens c.links_from-of_marks.ensures.upper_bound c.links_from-of_bases.ensures.upper_bound,
    )

pub returns : goal.returns
returns c t k =
    let a = c.args in
    measured k (λ i. (c.shared_slice_known-1.given i).fits) (c.arrange_glyphs.ensures a.links.now a.counts t k)
    c.new_length-bytes.ensures (c.links_from-of_marks.ensures.by_index a.«data».now a.objects.now k.opens.reads.sounds)
    (c.links_from-of_bases.ensures.by_index a.«data».now a.objects.now k.opens.reads.sounds) c.needs_of.ensures
