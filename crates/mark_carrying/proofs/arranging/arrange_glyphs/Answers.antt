-- `arranging::arrange_glyphs` meets its contract: all covered glyphs are written, and those of the marks arranged. Assumes nothing.
use Rattle.mark_checks.proofs.Opened.{marks_inside}
use Rattle.mark_carrying.proofs.ByTable.{coverage_inside, cover_ready, glyphs_numbered, glyphs_arranged}
use Rattle.mark_carrying.proofs.arranging.arrange_glyphs.Goals as goal

pub bytes_of-requires : goal.bytes_of-requires
bytes_of-requires c =
    let (l, n, t, k) = c.requires in
    coverage_inside k

pub glyphs_into-requires : goal.glyphs_into-requires
glyphs_into-requires c =
    let (l, n, t, k) = c.requires in
    let all = cover_ready k (λ i. (c.shared_slice_known-1.given i).fits) (c.bytes_of.ensures l n) in
    record { part_value = all.0; part_in_bounds = all.1 }

pub bytes_of-requires-2 : goal.bytes_of-requires-2
bytes_of-requires-2 c =
    let (l, n, t, k) = c.requires in
    marks_inside k.opens

pub arrange-requires : goal.arrange-requires
arrange-requires c =
    let (l, n, t, k) = c.requires in
    glyphs_numbered k (λ i. (c.shared_slice_known-1.given i).fits) (c.bytes_of.ensures l n) c.glyphs_into.ensures
    (c.bytes_of-2.ensures l n)

pub returns : goal.returns
returns c l n t k =
    glyphs_arranged k (λ i. (c.shared_slice_known-1.given i).fits) (c.bytes_of.ensures l n) c.glyphs_into.ensures
    (c.bytes_of-2.ensures l n) c.arrange.auto.numbers c.arrange.ensures
