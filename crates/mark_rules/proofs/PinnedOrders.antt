-- Order-only links in splits of mark-to-base tables, held against a small whole store, as one check. Assumes nothing.
use Prim.Native.Nat.{◌+◌}
use mathlib.Core.Path.{◌≡◌, refl}
use mathlib.Core.Bool.{Bool, true}
use mathlib.Core.List.{List, [], ◌∷◌, ◌++◌}
use lib.Dec.{eqb}
use Rattle.folds.specs.Lists.{sift}
use Rattle.folds.proofs.Compared.{same, every}
use Rattle.store_rules.specs.Store.{Store, links_of, is_offset, sound, orders_of}
use Rattle.store_rules.specs.Appended.{row_numbers}
use Rattle.store_rules.proofs.Pinned.{link_row, order_row}
use Rattle.call_rules.specs.Settings.{first_edition}
use Rattle.mark_rules.specs.Written.{need_links, split_store}
use Rattle.mark_rules.specs.Calls.{mark_plan_call, mark_call}
use Rattle.mark_rules.proofs.Pinned as pinned
use Rattle.mark_rules.proofs.Pinned.{linked, heads, small, enough}

-- `small` with order-only links of the table, of both arrays and of an anchor back to the table
unfoldable pub ordered : Store
ordered =
    linked
    (heads ++ order_row 0 5 ++ link_row 3 4 5 ++ link_row 3 8 6 ++ link_row 3 16 7 ++ order_row 3 4
    ++ link_row 4 2 8 ++ link_row 4 4 9 ++ link_row 4 6 8 ++ link_row 4 12 8 ++ link_row 4 16 9 ++ order_row 4 0 ++ order_row 4 3 ++ order_row 5 0)

-- no fault by 7, not counted in the room, and attachments as without them; after a cut they stay with the table and the old arrays, and no new object has one
unfoldable pub ordering : List Bool
ordering =
    sound ordered ∷ eqb (mark_plan_call first_edition ordered 0 enough (9 ∷ 9 ∷ 9 ∷ [])).answer 0 ∷ eqb (need_links ordered 0 1) (need_links small 0 1)
    ∷ same (mark_call ordered 0 10 100).anchors (mark_call small 0 10 100).anchors
    ∷ sound (split_store ordered 0 (1 ∷ []))
    ∷ same (orders_of (split_store ordered 0 (1 ∷ [])) 0) (5 ∷ []) ∷ same (orders_of (split_store ordered 0 (1 ∷ [])) 3) (4 ∷ [])
    ∷ same (orders_of (split_store ordered 0 (1 ∷ [])) 4) (0 ∷ 3 ∷ []) ∷ same (orders_of (split_store ordered 0 (1 ∷ [])) 5) (0 ∷ [])
    ∷ eqb (split_store ordered 0 (1 ∷ [])).link_count ((split_store small 0 (1 ∷ [])).link_count + 5)
    ∷ same (row_numbers (sift is_offset (links_of (split_store ordered 0 (1 ∷ []))))) (row_numbers (links_of (split_store small 0 (1 ∷ []))))
    ∷ []

pub ordering_pinned : every ordering ≡ true
unfolding pinned.computes ordered ordering
ordering_pinned = refl
