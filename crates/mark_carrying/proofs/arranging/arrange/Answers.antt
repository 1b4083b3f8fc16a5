-- `arranging::arrange` meets its contract: the marks are put in the order of their classes, and then those of each table in their own. Assumes nothing.
use Rattle.mark_carrying.proofs.ByTable.{by_class_lem, by_parts}
use Rattle.mark_carrying.proofs.arranging.arrange.Goals as goal

pub order_marks-requires : goal.order_marks-requires
order_marks-requires c =
    let g = c.requires in
    record { classes_len = g.same; numbers_in_bounds = g.long; by_index = g.rising; in_bounds = g.scratch }

pub order_parts-requires : goal.order_parts-requires
order_parts-requires c = by_class_lem c.requires (λ i. (c.shared_slice_known-1.given i).fits) (λ i. (c.slice_known-1.given i).fits) c.order_marks.ensures

pub returns : goal.returns
returns c =
    by_parts c.requires (λ i. (c.shared_slice_known-1.given i).fits) (λ i. (c.slice_known-1.given i).fits) c.order_marks.ensures
    c.order_parts.ensures
