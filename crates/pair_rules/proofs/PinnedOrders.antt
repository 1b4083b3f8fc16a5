-- Order-only links in splits of pair tables, held against small whole stores, as one check. Assumes nothing.
use Prim.Native.Nat.{ℕ, ◌*◌}
use mathlib.Core.Path.{◌≡◌, refl}
use mathlib.Core.Bool.{Bool, true}
use mathlib.Core.List.{List, [], ◌∷◌, ◌++◌}
use lib.ListN.{take}
use lib.Dec.{eqb}
use Rattle.folds.proofs.Compared as compared
use Rattle.folds.proofs.Compared.{same, every}
use Rattle.store_rules.specs.Store.{Store, per_link, sound}
use Rattle.store_rules.proofs.Pinned.{link_row, order_row, packed, store_of, roomy}
use Rattle.call_rules.specs.Settings.{first_edition}
use Rattle.call_rules.proofs.Pinned.{fives}
use Rattle.pair_rules.specs.Written.{split_store}
use Rattle.pair_rules.specs.Pairs.{pair_of}
use Rattle.pair_rules.specs.Calls.{split_call, plan_call}
use Rattle.pair_rules.specs.Computing as definitions
use Rattle.pair_rules.proofs.Pinned.{sameℤs, same_pair, with_sets, two_records, one_record, bare1, under1, tens, slots1, store1, bare2, rows2, fifties, enough}

-- `store1` with order-only links: of the table to a set, of a set back to the table, of the device to that set
unfoldable pub ordered1 : Store
ordered1 = under1 tens (link_row 0 2 1 ++ link_row 0 10 2 ++ link_row 0 14 3 ++ order_row 0 3 ++ link_row 2 6 4 ++ order_row 2 0 ++ order_row 4 2)

-- format 2, with one of the table to its device
unfoldable pub ordered2 : Store
ordered2 = rows2 3 fifties (link_row 0 2 1 ++ link_row 0 8 2 ++ link_row 0 10 3 ++ link_row 0 30 4 ++ link_row 0 38 4 ++ order_row 0 4)

-- the link rows in use
unfoldable pub rows_in : Store → List ℕ
rows_in s = take (per_link * s.link_count) s.links

-- they are no fault by 7, at no slot and on a way back; pairs read as without them; after a cut at 1 they stay with their objects, and the moved set's new table
-- has none
unfoldable pub ordering : List Bool
ordering =
    sound ordered1 ∷ eqb (split_call first_edition ordered1 0 enough (9 ∷ [])).answer 0 ∷ eqb (plan_call first_edition ordered1 0 enough (9 ∷ [])).answer 0
    ∷ eqb (plan_call first_edition ordered2 0 enough (9 ∷ [])).answer 0
    ∷ same_pair (pair_of ordered1 0 10 5) (pair_of store1 0 10 5) ∷ same_pair (pair_of ordered1 0 30 5) (pair_of store1 0 30 5)
    ∷ sound (split_store ordered1 0 (1 ∷ []))
    ∷ same (rows_in (split_store ordered1 0 (1 ∷ [])))
    (link_row 0 2 7 ++ link_row 0 10 2 ++ order_row 0 3 ++ link_row 2 6 4 ++ order_row 2 0 ++ order_row 4 2 ++ link_row 5 2 6 ++ link_row 5 12 3)
    ∷ sound (split_store ordered2 0 (2 ∷ []))
    ∷ same (rows_in (split_store ordered2 0 (2 ∷ [])))
    (link_row 0 2 8 ++ link_row 0 8 9 ++ link_row 0 10 3 ++ link_row 0 30 4 ++ order_row 0 4 ++ link_row 5 2 6 ++ link_row 5 8 7 ++ link_row 5 10 3 ++ link_row 5 22 4)
    ∷ []

pub ordering_pinned : every ordering ≡ true
unfolding definitions.computes compared.computes packed store_of roomy fives sameℤs same_pair with_sets two_records one_record bare1 under1 tens slots1 store1 bare2 rows2 fifties enough ordered1 ordered2 rows_in ordering
ordering_pinned = refl
