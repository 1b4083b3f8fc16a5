-- Every other object in use keeps its place, its bytes and its links. Assumes nothing.
use Rattle.pair_rules.specs.Table.{cut_places}
use Rattle.promise_pairs.specs.Demands.{OthersKept, OrdersKept}
use Rattle.promise_pairs.proofs.GoesAhead.{splits_ready, store_written}
use Rattle.pair_after.proofs.NewLinks.{others_child}
use Rattle.pair_after.proofs.OrdersStay.{orders_then}
use Rattle.pair_after.proofs.NewBytes.{old_head, other_tail, other_bytes}

-- order-only links stay with their objects
pub orders_kept : OrdersKept
orders_kept how s t w list p i = rw (store_written how s t w list p) (orders_then s t (cut_places how s t) i)

-- "Every other old object keeps its bytes and links", and its place
pub others_kept : OthersKept
others_kept how s t w list p i h ne =
    let cs = cut_places how s t in
    let (g, e) = splits_ready how s t w list p in
    rw (store_written how s t w list p)
    (old_head s t cs g i h, other_tail s t cs g i h ne, other_bytes s t cs g i h ne, (λ q. others_child s t cs g i q h ne))
