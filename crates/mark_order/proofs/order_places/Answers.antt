-- `mark_order::order_places` meets its contract: the marks are numbered, and then put in order. Assumes nothing.
use lib.ListN.{length}
use Rattle.mark_order.proofs.Entries.{places_ascend_lem, by_places}
use Rattle.mark_order.proofs.order_places.Goals as goal

pub order_marks-requires-clause-by_index : goal.order_marks-requires-clause-by_index
order_marks-requires-clause-by_index c = let a = c.args in places_ascend_lem a.array.now (length a.places.now) c.number_u16.ensures

pub returns : goal.returns
returns c =
    let a = c.args in
    by_places a.array.now (length a.places.now) c.number_u16.ensures c.order_marks.ensures
