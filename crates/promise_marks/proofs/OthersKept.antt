-- Every other old object keeps its place, its bytes and its links. Assumes nothing.
use Rattle.mark_rules.specs.Table.{cut_places}
use Rattle.promise_marks.specs.Demands.{OthersKept, OrdersKept}
use Rattle.promise_marks.proofs.Ready.{splits_ready, store_written}
use Rattle.promise_marks.proofs.NewBytes.{old_head, old_tail, others_bytes}
use Rattle.promise_marks.proofs.NewLinks.{others_child}
use Rattle.promise_marks.proofs.OrdersStay.{orders_then}

-- order-only links stay with their objects
pub orders_kept : OrdersKept
orders_kept how s t w list p i = rw (store_written how s t w list p) (orders_then s t (cut_places how s t) i)

-- "Every other old object keeps its bytes and links."
pub others_kept : OthersKept
others_kept how s t w list p i h ne =
    let cs = cut_places how s t in
    let (g, e) = splits_ready how s t w list p in
    rw (store_written how s t w list p)
    (old_head s t cs g i h, old_tail s t cs g i h, others_bytes s t cs g i h ne, (λ q. others_child s t cs g i q h ne))
