-- What tables take together held against stores after a split, as one check; each line pins what its comment says. Assumes nothing.
use Prim.Native.Nat.{ℕ}
use mathlib.Core.Path.{◌≡◌, refl}
use mathlib.Core.Bool.{Bool, true, not}
use mathlib.Core.List.{List, [], ◌∷◌, ◌++◌, map}
use Rattle.folds.proofs.Compared as compared
use Rattle.folds.proofs.Compared.{same, every}
use Rattle.store_rules.specs.Store.{Store}
use Rattle.store_rules.proofs.Pinned.{link_row, packed, store_of}
use Rattle.cut_rules.specs.Measure as Measure
use Rattle.call_rules.specs.Settings.{second_edition}
use Rattle.mark_rules.specs.Table.{cut_places}
use Rattle.mark_rules.specs.Written.{split_store}
use Rattle.mark_rules.specs.Computing as definitions
use Rattle.mark_rules.proofs.Pinned.{table_of, heads, header}
use Rattle.mark_fits.specs.Together as Together
use Rattle.mark_fits.specs.Together.{marks_together}
use Rattle.mark_fits.specs.Guaranteed as Guaranteed
use Rattle.mark_fits.specs.Guaranteed.{within_by2}

-- three classes of one mark each, with anchors of 50,000 bytes, 20,000 and n, and one base without anchors
unfoldable pub three_marks : ℕ → Store
three_marks n =
    table_of (header 3 ∷ (1 ∷ 3 ∷ 10 ∷ 20 ∷ 30 ∷ []) ∷ (1 ∷ 1 ∷ 100 ∷ []) ∷ (3 ∷ 0 ∷ 0 ∷ 1 ∷ 0 ∷ 2 ∷ 0 ∷ []) ∷ (1 ∷ 0 ∷ 0 ∷ 0 ∷ []) ∷ []) (50000 ∷ 20000 ∷ n ∷ [])
    (heads ++ link_row 3 4 5 ++ link_row 3 8 6 ++ link_row 3 12 7)

unfoldable pub pins : List Bool
pins =
    -- `marks_together`: up to the limit
    same (cut_places second_edition (three_marks 45493) 0) (1 ∷ []) ∷ same (map (marks_together (split_store (three_marks 45493) 0 (1 ∷ []))) (0 ∷ 8 ∷ [])) (50034 ∷ 65535 ∷ [])
    -- `within_by2`: past it one cut is too few
    ∷ same (cut_places second_edition (three_marks 45494) 0) (1 ∷ 2 ∷ []) ∷ not (within_by2 (three_marks 45494) 0 (1 ∷ [])) ∷ within_by2 (three_marks 45494) 0 (1 ∷ 2 ∷ [])
    ∷ []

pub pinned : every pins ≡ true
unfolding definitions.computes Measure.computes Together.computes Guaranteed.computes compared.computes packed store_of table_of heads header three_marks pins
pinned = refl
