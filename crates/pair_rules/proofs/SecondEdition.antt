-- The cuts of the second edition held against bare sizes and small stores, as one check; each list pins what its comment says. Assumes nothing.
use Prim.Native.Nat.{ℕ, ◌+◌, ◌%◌}
use mathlib.Core.Path.{◌≡◌, refl}
use mathlib.Core.Bool.{Bool, true}
use mathlib.Core.List.{List, [], ◌∷◌, ◌++◌}
use lib.ListN.{get_or}
use Rattle.folds.specs.Folds.{upto}
use Rattle.folds.proofs.Compared as compared
use Rattle.folds.proofs.Compared.{same, every}
use Rattle.ot_layouts.specs.Numbers.{words}
use Rattle.store_rules.specs.Store.{Store}
use Rattle.store_rules.proofs.Pinned.{link_row, packed, store_of}
use Rattle.cut_rules.specs.Cuts.{Rule, cuts_of}
use Rattle.cut_rules.specs.Measure as Measure
use Rattle.cut_rules.specs.Measure.{within_limit}
use Rattle.call_rules.specs.Settings.{first_edition, second_edition}
use Rattle.pair_rules.specs.Rules.{rule2}
use Rattle.pair_rules.specs.Table.{cut_places}
use Rattle.pair_rules.specs.Computing as definitions
use Rattle.pair_rules.proofs.Pinned.{entry, cut_sets, cut_rows, bare2, heads2, sharing, three_rows}

-- ---- format 1

-- three sets of 40,000, 20,000 and n bytes, of which the last two lead to 20,000 bytes
unfoldable pub shared_after : ℕ → Store
shared_after n =
    store_of (words (1 ∷ 0 ∷ 4 ∷ 0 ∷ 3 ∷ 0 ∷ 0 ∷ 0 ∷ []) ++ words (1 ∷ 3 ∷ 10 ∷ 20 ∷ 30 ∷ [])) (16 ∷ 10 ∷ 40000 ∷ 20000 ∷ n ∷ 20000 ∷ [])
    (link_row 0 2 1 ++ link_row 0 10 2 ++ link_row 0 12 3 ++ link_row 0 14 4 ++ link_row 3 4 5 ++ link_row 4 4 5)

-- `rule1`, `partial_cover`: an empty slot costs 2 bytes and 2 of coverage, and is tested; no cut is at item 0
-- `rule_of`: the set at a cut is measured again with nothing seen, and what it reaches counts as seen after
unfoldable pub of_sets : List Bool
of_sets =
    same (cut_sets second_edition (40000 ∷ 0 ∷ 0 ∷ 25505 ∷ []) 204) [] ∷ same (cut_sets second_edition (40000 ∷ 0 ∷ 0 ∷ 25506 ∷ []) 204) (3 ∷ [])
    ∷ same (cut_sets second_edition (65513 ∷ 0 ∷ []) 204) [] ∷ same (cut_sets second_edition (65514 ∷ 0 ∷ []) 204) (1 ∷ [])
    ∷ same (cut_sets second_edition (65515 ∷ 0 ∷ []) 6) [] ∷ same (cut_sets second_edition (65516 ∷ 0 ∷ []) 6) (1 ∷ [])
    ∷ same (cut_sets second_edition (65518 ∷ []) 6) [] ∷ same (cut_sets second_edition (65518 ∷ 0 ∷ 0 ∷ 65509 ∷ []) 204) (1 ∷ [])
    ∷ same (cut_sets second_edition (65518 ∷ 0 ∷ 0 ∷ 65510 ∷ []) 204) (1 ∷ 3 ∷ [])
    ∷ same (cut_places second_edition (sharing []) 0) (1 ∷ 2 ∷ [])
    ∷ same (cut_places second_edition (shared_after 25513) 0) (1 ∷ []) ∷ same (cut_places second_edition (shared_after 25514) 0) (1 ∷ 2 ∷ [])
    ∷ same (cut_places first_edition (shared_after 25513) 0) (1 ∷ 2 ∷ [])
    ∷ []

-- ---- format 2

-- two rows that lead to 40,000 bytes each, the second and the third of them to the same
unfoldable pub shared_rows : Store
shared_rows = bare2 3 (2 ∷ 0 ∷ []) (40000 ∷ 40000 ∷ []) (heads2 ++ link_row 0 18 4 ++ link_row 0 26 5 ++ link_row 0 34 5)

-- `rule2`, `rule_of`: no cut at row 0; a row at a cut is seen after
unfoldable pub of_rows : List Bool
of_rows =
    same (cut_rows second_edition (66000 ∷ 1 ∷ [])) (1 ∷ []) ∷ same (cut_rows first_edition (66000 ∷ 1 ∷ [])) (0 ∷ 1 ∷ [])
    ∷ same (cut_places second_edition (three_rows 35481 []) 0) [] ∷ same (cut_places second_edition (three_rows 35482 []) 0) (2 ∷ [])
    ∷ same (cut_places second_edition shared_rows 0) (1 ∷ []) ∷ same (cut_places first_edition shared_rows 0) (1 ∷ 2 ∷ [])
    ∷ []

-- four rows: even glyphs below 200 in class 1, and odd ones in class 2, which fill each other's gaps
unfoldable pub gaps : Rule
gaps = rule2 second_edition 4 0 (λ a i. get_or (40000 ∷ 0 ∷ 32700 ∷ 32700 ∷ []) i 0) (upto (λ g. entry g (1 + g % 2)) 200) 4

-- in format 2 a list within the limit may have fewer cuts than edition 2's
unfoldable pub of_gaps : List Bool
of_gaps = same (cuts_of gaps) (2 ∷ 3 ∷ []) ∷ within_limit gaps (1 ∷ []) ∷ []

pub pinned : every (of_sets ++ of_rows ++ of_gaps) ≡ true
unfolding definitions.computes Measure.computes compared.computes packed store_of bare2 heads2 cut_sets cut_rows sharing three_rows shared_after of_sets shared_rows of_rows gaps of_gaps
pinned = refl
