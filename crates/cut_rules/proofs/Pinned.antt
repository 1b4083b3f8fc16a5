-- The cut rule of both editions held against small rules, as one check; each line pins what its comment says. Assumes nothing.
use Prim.Native.Nat.{ℕ, ◌+◌, ◌-◌, ◌*◌}
use mathlib.Core.Path.{◌≡◌, refl}
use mathlib.Core.Bool.{Bool, true, not}
use mathlib.Core.List.{List, [], ◌∷◌}
use lib.ListN.{length, get_or}
use lib.Dec.{eqb}
use Rattle.folds.specs.Folds as Folds
use Rattle.folds.proofs.Compared as compared
use Rattle.folds.proofs.Compared.{same, every}
use Rattle.cut_rules.specs.Cuts as Cuts
use Rattle.cut_rules.specs.Cuts.{Rule, cuts_of}
use Rattle.cut_rules.specs.Ranges.{from, to}
use Rattle.cut_rules.specs.Places as Places
use Rattle.cut_rules.specs.Places.{places_ascend}
use Rattle.cut_rules.specs.Measure as Measure
use Rattle.cut_rules.specs.Measure.{measure, fits, table_fits, within_limit}

-- items of these costs over a start of 10, where those of cost 0 are empty; each costs more by the item from which objects count as seen, and beside them
-- stand 4 bytes for each item of the table
unfoldable pub sample : ℕ → List ℕ → Rule
sample e costs =
    record {
      edition = e;
      count = length costs;
      start = 10;
      full = λ i. not (eqb (get_or costs i 0) 0);
      cost = λ a i. get_or costs i 0 + get_or (0 ∷ 100 ∷ 300 ∷ 600 ∷ []) a 0;
      beside = λ a i. 4 * (i + 1 - a);
    }

-- the cuts of edition 1, and of edition 2
unfoldable pub cuts : List ℕ → List ℕ
cuts costs = cuts_of (sample 1 costs)

unfoldable pub cuts2 : List ℕ → List ℕ
cuts2 costs = cuts_of (sample 2 costs)

unfoldable pub pins : List Bool
pins =
    -- `exceeds`: 65,535 bytes fit, with what stands beside
    same (cuts (65521 ∷ [])) [] ∷ same (cuts (65522 ∷ [])) (0 ∷ [])
    -- `looked`: an empty item adds nothing, and is not tested
    ∷ same (cuts (65521 ∷ 0 ∷ 0 ∷ [])) [] ∷ same (cuts (65522 ∷ 0 ∷ 1 ∷ [])) (0 ∷ 2 ∷ [])
    -- `go_on`: the sum goes on
    ∷ same (cuts (30000 ∷ 30000 ∷ 5513 ∷ [])) [] ∷ same (cuts (30000 ∷ 30000 ∷ 5514 ∷ [])) (2 ∷ [])
    -- `cut_here`: the sum is the start and the item's cost as it was measured, objects count as seen from the next item on, the table starts with the item
    ∷ same (cuts (40000 ∷ 40000 ∷ 25217 ∷ [])) (1 ∷ []) ∷ same (cuts (40000 ∷ 40000 ∷ 25218 ∷ [])) (1 ∷ 2 ∷ [])
    ∷ same (cuts (65525 ∷ 40000 ∷ 25117 ∷ [])) (0 ∷ 1 ∷ []) ∷ same (cuts (65525 ∷ 40000 ∷ 25118 ∷ [])) (0 ∷ 1 ∷ 2 ∷ [])
    -- `go_on`: after a cut too the table's first item and what counts as seen stay
    ∷ same (cuts (40000 ∷ 40000 ∷ 100 ∷ 24813 ∷ [])) (1 ∷ []) ∷ same (cuts (40000 ∷ 40000 ∷ 100 ∷ 24814 ∷ [])) (1 ∷ 3 ∷ [])
    -- `least_cut`: edition 2 never cuts at item 0, however large, but at the next one
    ∷ same (cuts2 (65522 ∷ [])) [] ∷ same (cuts2 (65522 ∷ 1 ∷ [])) (1 ∷ []) ∷ same (cuts2 (30000 ∷ 35517 ∷ [])) [] ∷ same (cuts2 (30000 ∷ 35518 ∷ [])) (1 ∷ [])
    -- `looked`: to edition 2 an empty item is one as any other, up to the limit
    ∷ same (cuts2 (65517 ∷ 0 ∷ [])) [] ∷ same (cuts2 (65518 ∷ 0 ∷ [])) (1 ∷ []) ∷ same (cuts2 (65518 ∷ 0 ∷ 65317 ∷ [])) (1 ∷ []) ∷ same (cuts2 (65518 ∷ 0 ∷ 65318 ∷ [])) (1 ∷ 2 ∷ [])
    -- `cost_at_cut`, `seen_from`: in edition 2 the item at a cut costs what it does with nothing seen, and what it reaches counts as seen
    ∷ same (cuts2 (40000 ∷ 40000 ∷ 25317 ∷ [])) (1 ∷ []) ∷ same (cuts2 (40000 ∷ 40000 ∷ 25318 ∷ [])) (1 ∷ 2 ∷ [])
    ∷ same (cuts2 (40000 ∷ 40000 ∷ 100 ∷ 25113 ∷ [])) (1 ∷ []) ∷ same (cuts2 (40000 ∷ 40000 ∷ 100 ∷ 25114 ∷ [])) (1 ∷ 3 ∷ [])
    -- a cut right after a cut
    ∷ same (cuts2 (30000 ∷ 50000 ∷ 20000 ∷ 44917 ∷ [])) (1 ∷ 2 ∷ []) ∷ same (cuts2 (30000 ∷ 50000 ∷ 20000 ∷ 44918 ∷ [])) (1 ∷ 2 ∷ 3 ∷ [])
    -- `from`, `to`: a range ends where the next one starts, the last one with the items
    ∷ eqb (from [] 0) 0 ∷ eqb (from (3 ∷ 5 ∷ []) 1) 5 ∷ eqb (to 9 (3 ∷ 5 ∷ []) 0) 5 ∷ eqb (to 9 (3 ∷ 5 ∷ []) 1) 9
    -- `ascending`: from the first bound to below the second, no place twice
    ∷ places_ascend 1 5 (1 ∷ 4 ∷ []) ∷ not (places_ascend 1 5 (0 ∷ 4 ∷ [])) ∷ not (places_ascend 1 5 (1 ∷ 5 ∷ [])) ∷ not (places_ascend 1 5 (2 ∷ 2 ∷ [])) ∷ places_ascend 1 0 []
    -- `measure`: from its own start, over the header, with nothing seen before it
    ∷ eqb (measure (sample 2 (5 ∷ 7 ∷ 9 ∷ [])) 1 2) 234
    -- `fits`: 65,535 bytes do
    ∷ fits (sample 2 (65521 ∷ [])) 0 0 ∷ not (fits (sample 2 (65522 ∷ [])) 0 0)
    -- `table_fits`: any table of one item does, and one of more at every item after its first
    ∷ table_fits (sample 2 (65522 ∷ 1 ∷ [])) 0 1 ∷ not (table_fits (sample 2 (65522 ∷ 1 ∷ [])) 0 2) ∷ not (table_fits (sample 2 (1 ∷ 65522 ∷ 1 ∷ [])) 0 3)
    -- `within_limit`: each table of a list, the last one too
    ∷ within_limit (sample 2 (40000 ∷ 40000 ∷ 40000 ∷ [])) (1 ∷ 2 ∷ []) ∷ not (within_limit (sample 2 (40000 ∷ 40000 ∷ 40000 ∷ [])) (1 ∷ []))
    ∷ not (within_limit (sample 2 (40000 ∷ 40000 ∷ 40000 ∷ [])) (2 ∷ [])) ∷ not (within_limit (sample 2 (40000 ∷ 40000 ∷ 40000 ∷ [])) (0 ∷ []))
    ∷ []

pub pinned : every pins ≡ true
unfolding Folds.computes Cuts.computes Places.computes Measure.computes compared.computes sample cuts cuts2 pins
pinned = refl
