-- Order-only links redirected, held against small whole stores, as one check. Assumes nothing.
use mathlib.Core.Path.{◌≡◌, refl}
use mathlib.Core.Bool.{Bool, true, not}
use mathlib.Core.List.{List, [], ◌∷◌, ◌++◌}
use Rattle.folds.proofs.Compared as compared
use Rattle.folds.proofs.Compared.{same, every}
use Rattle.store_rules.specs.Store.{Store, sound, orders_of}
use Rattle.store_rules.proofs.Pinned.{link_row, order_row, packed, store_of, roomy}
use Rattle.lookup_rules.specs.Listed.{rewritten, bad_list}
use Rattle.lookup_rules.specs.Written.{lookup_store, lookups_need}
use Rattle.lookup_rules.specs.Applied.{reaches}
use Rattle.lookup_rules.specs.Computing as definitions
use Rattle.lookup_rules.proofs.Pinned.{bare_lookups, lookups_in, knot, rows_in, needs}

-- `knot` with order-only links: of 1 to both lookups and to 8, of the list to both, of 6 to itself and to 7, of 8 to the table
unfoldable pub ordered : Store
ordered =
    lookups_in ((2 ∷ 0 ∷ 0 ∷ []) ∷ (2 ∷ 0 ∷ 2 ∷ 0 ∷ 0 ∷ []) ∷ (2 ∷ 0 ∷ 2 ∷ 0 ∷ 0 ∷ []) ∷ (0 ∷ []) ∷ [])
    (order_row 1 6 ++ order_row 1 7 ++ order_row 1 8 ++ link_row 5 2 7 ++ link_row 5 4 6 ++ order_row 5 6 ++ order_row 5 7
    ++ link_row 6 6 0 ++ link_row 6 8 7 ++ order_row 6 6 ++ order_row 6 7 ++ link_row 7 6 6 ++ link_row 7 8 0 ++ order_row 8 0)

-- in list order 7 becomes 14 and 6 becomes 15; 9 and 11 are the new tables
unfoldable pub ordered_then : Store
ordered_then = lookup_store ordered 5 0 (0 ∷ 1 ∷ [])

-- 9 does not look at them, nor do `reaches` and the room; redirected ones come behind, in order of their new numbers; the copies, 14 and 15, have none
unfoldable pub ordering : List Bool
ordering =
    sound ordered ∷ not (bad_list ordered 5 0) ∷ same (rewritten ordered 5 0) (7 ∷ 6 ∷ [])
    ∷ not (reaches ordered 8 0) ∷ not (reaches ordered 1 6)
    ∷ same (needs (lookups_need ordered 0 (9 ∷ 11 ∷ []) (7 ∷ 6 ∷ []))) (needs (lookups_need knot 0 (8 ∷ 10 ∷ []) (7 ∷ 6 ∷ [])))
    ∷ sound ordered_then
    ∷ same (orders_of ordered_then 1) (8 ∷ 14 ∷ 15 ∷ []) ∷ same (orders_of ordered_then 5) (14 ∷ 15 ∷ []) ∷ same (orders_of ordered_then 6) (14 ∷ 15 ∷ [])
    ∷ same (orders_of ordered_then 8) (0 ∷ []) ∷ same (orders_of ordered_then 14) [] ∷ same (orders_of ordered_then 15) []
    ∷ same (rows_in ordered_then)
    (link_row 0 2 13 ++ order_row 1 8 ++ order_row 1 14 ++ order_row 1 15 ++ link_row 5 2 14 ++ link_row 5 4 15 ++ order_row 5 14 ++ order_row 5 15
    ++ link_row 6 6 0 ++ link_row 6 8 14 ++ order_row 6 14 ++ order_row 6 15 ++ link_row 7 6 15 ++ link_row 7 8 0 ++ order_row 8 0
    ++ link_row 9 2 10 ++ link_row 9 10 2 ++ link_row 11 2 12 ++ link_row 11 10 3
    ++ link_row 14 6 15 ++ link_row 14 8 0 ++ link_row 14 10 9 ++ link_row 14 12 11 ++ link_row 15 6 0 ++ link_row 15 8 9 ++ link_row 15 10 11 ++ link_row 15 12 14)
    ∷ []

pub ordering_pinned : every ordering ≡ true
unfolding definitions.computes compared.computes packed store_of roomy bare_lookups lookups_in knot rows_in needs ordered ordered_then ordering
ordering_pinned = refl
