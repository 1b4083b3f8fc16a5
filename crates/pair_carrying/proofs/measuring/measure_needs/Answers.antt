-- `measuring::measure_needs` meets its contract: the glyphs are arranged, and the new objects counted from them. Assumes nothing.
use Rattle.pair_carrying.proofs.Counting.{planned, needs_asked, measured}
use Rattle.pair_carrying.proofs.measuring.measure_needs.Goals as goal

pub new_length-bytes-requires : goal.new_length-bytes-requires
new_length-bytes-requires c =
    let (l, n, t, k) = c.requires in
    planned k (λ i. (c.shared_slice_known-1.given i).fits) (c.arrange.ensures l n t k)

pub needs_of-requires : goal.needs_of-requires
needs_of-requires c =
    let (l, n, t, k) = c.requires in
    needs_asked k (λ i. (c.shared_slice_known-1.given i).fits) (c.arrange.ensures l n t k)

pub returns : goal.returns
returns c l n t k = measured k (λ i. (c.shared_slice_known-1.given i).fits) (c.arrange.ensures l n t k) c.new_length-bytes.ensures c.needs_of.ensures
