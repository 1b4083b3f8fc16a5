-- `arranging::arrange_places` meets its contract: the places are counted up, and arranged. Assumes nothing.
use Rattle.mark_checks.proofs.Opened.{marks_inside}
use Rattle.mark_carrying.proofs.ByTable.{few_places, places_numbered, places_arranged}
use Rattle.mark_carrying.proofs.arranging.arrange_places.Goals as goal

pub number_u16-requires : goal.number_u16-requires
number_u16-requires c =
    let (l, n, t, k) = c.requires in
    few_places k (λ i. (c.shared_slice_known-1.given i).fits)

pub bytes_of-requires : goal.bytes_of-requires
bytes_of-requires c =
    let (l, n, t, k) = c.requires in
    marks_inside k.opens

pub arrange-requires : goal.arrange-requires
arrange-requires c =
    let (l, n, t, k) = c.requires in
    places_numbered k c.number_u16.ensures (c.bytes_of.ensures l n)

pub returns : goal.returns
returns c l n t k = places_arranged k c.number_u16.ensures (c.bytes_of.ensures l n) c.arrange.ensures
