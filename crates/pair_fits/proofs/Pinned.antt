-- What tables take together held against stores after a split, as one check; each line pins what its comment says. Assumes nothing.
use Prim.Native.Nat.{ℕ, ◌+◌}
use mathlib.Core.Path.{◌≡◌, refl}
use mathlib.Core.Bool.{Bool, true, not}
use mathlib.Core.List.{List, [], ◌∷◌, ◌++◌, map}
use lib.ListN.{replicate}
use Rattle.folds.proofs.Compared as compared
use Rattle.folds.proofs.Compared.{same, every}
use Rattle.ot_layouts.specs.Numbers.{words}
use Rattle.store_rules.specs.Store.{Store}
use Rattle.store_rules.proofs.Pinned.{link_row, packed}
use Rattle.cut_rules.specs.Measure as Measure
use Rattle.call_rules.specs.Settings.{second_edition}
use Rattle.pair_rules.specs.Table.{cut_places}
use Rattle.pair_rules.specs.Written.{split_store}
use Rattle.pair_rules.specs.Computing as definitions
use Rattle.pair_fits.specs.Together as Together
use Rattle.pair_fits.specs.Together.{sets_together, rows_together}
use Rattle.pair_fits.specs.Guaranteed as Guaranteed
use Rattle.pair_fits.specs.Guaranteed.{within_by2}

-- three sets of these sizes under a coverage of 10 bytes, which lead on to one object more by these links
unfoldable pub three_sets : ℕ → ℕ → ℕ → ℕ → ℕ → ℕ → Store
three_sets a b c d p q =
    record {
      bytes = words (1 ∷ 0 ∷ 4 ∷ 0 ∷ 3 ∷ 0 ∷ 0 ∷ 0 ∷ []) ++ words (1 ∷ 3 ∷ 10 ∷ 20 ∷ 30 ∷ []) ++ replicate (a + b + c + d + 100) 0;
      objects = packed 0 (16 ∷ 10 ∷ a ∷ b ∷ c ∷ d ∷ []) ++ replicate 10 0;
      links = link_row 0 2 1 ++ link_row 0 10 2 ++ link_row 0 12 3 ++ link_row 0 14 4 ++ link_row p 4 5 ++ link_row q 4 5 ++ replicate 8 0;
      byte_count = 26 + a + b + c + d;
      object_count = 6;
      link_count = 6;
    }

-- W10: "A 100, B 30,000, C 20,000, A and B both lead to D 40,000; coverage 10"
unfoldable pub store10 : Store
store10 = three_sets 100 30000 20000 40000 2 3

-- the last two lead to 20,000 bytes
unfoldable pub at_limit : Store
at_limit = three_sets 40000 20000 25513 20000 3 4

-- three rows of 8 bytes, of which the first two lead to 30,000 bytes and to 35,482, and a class definition 2 of 4 bytes
unfoldable pub three_rows : Store
three_rows =
    record {
      bytes = words (2 ∷ 0 ∷ 0x44 ∷ 0 ∷ 0 ∷ 0 ∷ 3 ∷ 2 ∷ []) ++ replicate 24 0 ++ words (2 ∷ 1 ∷ 10 ∷ 14 ∷ 0 ∷ []) ++ words (1 ∷ 11 ∷ 4 ∷ 1 ∷ 1 ∷ 2 ∷ 3 ∷ [])
          ++ words (2 ∷ 0 ∷ []) ++ replicate 65682 0;
      objects = packed 0 (40 ∷ 10 ∷ 14 ∷ 4 ∷ 30000 ∷ 35482 ∷ []) ++ replicate 10 0;
      links = link_row 0 2 1 ++ link_row 0 8 2 ++ link_row 0 10 3 ++ link_row 0 18 4 ++ link_row 0 26 5 ++ replicate 12 0;
      byte_count = 65550;
      object_count = 6;
      link_count = 5;
    }

-- what the tables us take together in the store after a split at cs
unfoldable pub takes : (Store → ℕ → ℕ) → Store → List ℕ → List ℕ → List ℕ
takes together s cs us = map (together (split_store s 0 cs)) us

unfoldable pub pins : List Bool
pins =
    -- W10 is cut at 1 and 2; at 1 alone the new table "really reaches 90,000 bytes and more"
    same (cut_places second_edition store10 0) (1 ∷ 2 ∷ []) ∷ same (takes sets_together store10 (1 ∷ 2 ∷ []) (0 ∷ 6 ∷ 8 ∷ [])) (40118 ∷ 70018 ∷ 20018 ∷ [])
    ∷ same (takes sets_together store10 (1 ∷ []) (0 ∷ 6 ∷ [])) (40118 ∷ 90022 ∷ [])
    -- `within_by2`: no fewer cuts would do
    ∷ within_by2 store10 0 (1 ∷ 2 ∷ []) ∷ not (within_by2 store10 0 (1 ∷ [])) ∷ not (within_by2 store10 0 (2 ∷ [])) ∷ not (within_by2 store10 0 [])
    -- `sets_together`: up to the limit, what two sets reach once
    ∷ same (cut_places second_edition at_limit 0) (1 ∷ []) ∷ same (takes sets_together at_limit (1 ∷ []) (0 ∷ 6 ∷ [])) (40018 ∷ 65535 ∷ [])
    -- `rows_together`: coverage and class definitions of 10, 10 and 4 bytes, of 6, 4 and 4
    ∷ same (cut_places second_edition three_rows 0) (2 ∷ []) ∷ same (takes rows_together three_rows (2 ∷ []) (0 ∷ 6 ∷ [])) (65528 ∷ 32 ∷ [])
    ∷ []

pub pinned : every pins ≡ true
unfolding definitions.computes Measure.computes Together.computes Guaranteed.computes compared.computes packed three_sets store10 at_limit three_rows takes pins
pinned = refl
