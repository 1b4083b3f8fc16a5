-- `split_call`, `plan_call`: a whole outcome of W9's store, and 6 and 8 at their edges. It has 65,536 bytes and more, so it stands apart from what is computed again for
-- each edit. Assumes nothing.
use Prim.Native.Nat.{ℕ, zero, suc, ◌+◌, ◌*◌, ◌/◌, ◌%◌}
use mathlib.Core.Path.{◌≡◌, refl}
use mathlib.Core.Bool.{Bool, true, ◌&&◌}
use mathlib.Core.List.{List, [], ◌∷◌, ◌++◌}
use lib.ListN.{take}
use lib.Dec.{eqb}
use Rattle.folds.proofs.Compared as compared
use Rattle.folds.proofs.Compared.{same, every}
use Rattle.ot_layouts.specs.Numbers.{words}
use Rattle.store_rules.specs.Store.{Store, per_link, bytes_of}
use Rattle.store_rules.proofs.Pinned.{link_row, packed}
use Rattle.call_rules.specs.Settings.{first_edition}
use Rattle.call_rules.specs.Outcomes.{Outcome}
use Rattle.call_rules.proofs.Pinned.{fives}
use Rattle.pair_rules.specs.Calls.{split_call, plan_call}
use Rattle.pair_rules.specs.Computing as definitions
use Rattle.pair_rules.proofs.Pinned.{large_set, enough}

-- n records of one field, for second glyphs from g on
unfoldable pub records : ℕ → ℕ → List ℕ
records zero g = []
records (suc n) g = g / 256 ∷ g % 256 ∷ 0 ∷ 0 ∷ records n (g + 1)

unfoldable pub store9 : ℕ → ℕ → ℕ → Store
store9 bytes objects links = large_set (words (16379 ∷ []) ++ records 16379 0) bytes objects links

-- a whole outcome of W9: a new table, its coverage and the kept table's
unfoldable pub splits_at0 : Outcome → Bool
splits_at0 o =
    eqb o.answer 0 && eqb o.count 1 && same o.list (3 ∷ 9 ∷ [])
    && same (take 12 o.store.objects) (packed 0 (10 ∷ []) ++ (12 ∷ 18 ∷ 18 ∷ 65536 ∷ []) ++ packed 65536 (12 ∷ 6 ∷ 4 ∷ []))
    && same (take (per_link * 3) o.store.links) (link_row 0 2 5 ++ link_row 3 2 4 ++ link_row 3 10 2)
    && eqb o.store.byte_count 65558 && eqb o.store.object_count 6 && eqb o.store.link_count 3
    && same (bytes_of o.store 0) (words (1 ∷ 0 ∷ 4 ∷ 0 ∷ 0 ∷ [])) && same (bytes_of o.store 3) (words (1 ∷ 0 ∷ 4 ∷ 0 ∷ 1 ∷ 0 ∷ []))
    && same (bytes_of o.store 4) (words (1 ∷ 1 ∷ 10 ∷ [])) && same (bytes_of o.store 5) (words (1 ∷ 0 ∷ []))

-- 8 at its edges: bytes, objects, links, the list, and the plan's list; 6 before it
unfoldable pub edges : List Bool
edges =
    splits_at0 (split_call first_edition (store9 22 3 1) 0 enough (8 ∷ 9 ∷ []))
    ∷ eqb (split_call first_edition (store9 21 3 1) 0 enough (9 ∷ [])).answer 8 ∷ eqb (split_call first_edition (store9 22 2 1) 0 enough (9 ∷ [])).answer 8
    ∷ eqb (split_call first_edition (store9 22 3 0) 0 enough (9 ∷ [])).answer 8 ∷ eqb (split_call first_edition (store9 22 3 1) 0 enough []).answer 8
    ∷ same (plan_call first_edition (store9 0 0 0) 0 enough (8 ∷ 9 ∷ [])).list (0 ∷ 9 ∷ []) ∷ eqb (plan_call first_edition (store9 22 3 1) 0 enough []).answer 8
    ∷ eqb (split_call first_edition (store9 0 0 0) 0 (fives 5 8192 1 1 1) []).answer 6
    ∷ eqb (plan_call first_edition (store9 0 0 0) 0 (fives 5 8192 1 1 1) []).answer 6
    ∷ []

pub edges_hold : every edges ≡ true
unfolding definitions.computes compared.computes packed fives large_set records store9 enough splits_at0 edges
edges_hold = refl
