-- Answers under new numbers, and room that is freed, held against small cases. Assumes nothing.
use Prim.Native.Nat.{ℕ, ◌+◌, ◌*◌}
use mathlib.Core.Path.{◌≡◌, refl}
use mathlib.Core.Bool.{Bool, true, not}
use mathlib.Core.List.{List, [], ◌∷◌}
use lib.ListN.{replicate}
use lib.IntN.{pos, negsuc}
use Rattle.folds.specs.Folds as Folds
use Rattle.folds.proofs.Compared as compared
use Rattle.folds.proofs.Compared.{every}
use Rattle.ot_layouts.specs.Values.{fields}
use Rattle.store_rules.specs.Store as Stores
use Rattle.store_rules.specs.Store.{Store, per_link}
use Rattle.call_rules.specs.declared.Needs.{Needs}
use Rattle.pair_rules.specs.Calls.{PairOutcome}
use Rattle.pair_rules.specs.Renumbered as pairs
use Rattle.mark_rules.specs.Renumbered as marks
use Rattle.promise_compaction.specs.Rests.{short_having}

-- ---- `outcome_then`: devices and anchors, "the linked object's number plus one, or 0", under new numbers, and nothing else

abbrev pair_answer : PairOutcome
pair_answer =
    record {
      answer = 0;
      found = 1;
      values =
          pos 1 ∷ negsuc 1 ∷ pos 0 ∷ pos 4 ∷ pos 1 ∷ pos 0 ∷ pos 7 ∷ pos 8
          ∷ pos 9 ∷ pos 0 ∷ negsuc 0 ∷ pos 12 ∷ pos 0 ∷ pos 14 ∷ pos 1 ∷ pos 16
          ∷ [];
    }

pub devices_pinned : pairs.outcome_then (λ c. 100 + c) pair_answer
    ≡ record {
      answer = 0;
      found = 1;
      values =
          pos 1 ∷ negsuc 1 ∷ pos 0 ∷ pos 4 ∷ pos 101 ∷ pos 0 ∷ pos 107 ∷ pos 108
          ∷ pos 9 ∷ pos 0 ∷ negsuc 0 ∷ pos 12 ∷ pos 0 ∷ pos 114 ∷ pos 101 ∷ pos 116
          ∷ [];
    }
unfolding pairs.computes Folds.computes fields
devices_pinned = refl

pub anchors_pinned : marks.outcome_then (λ c. 100 + c) (record { answer = 4; found = 1; anchors = 7 ∷ 0 ∷ [] })
    ≡ record { answer = 4; found = 1; anchors = 107 ∷ 0 ∷ [] }
unfolding marks.computes
anchors_pinned = refl

-- ---- `short_having`

-- room for 5 objects, 4 links and 20 bytes, of which 5, 4 and 19 are in use
unfoldable pub full : Store
full =
    record {
      bytes = replicate 20 0;
      objects = replicate 11 0;
      links = replicate (per_link * 4 + 4) 0;
      byte_count = 19;
      object_count = 5;
      link_count = 4;
    }

-- so many objects, links and bytes, and two result entries
abbrev needs : ℕ → ℕ → ℕ → Needs
needs o l b = record { objects = o; links = l; bytes = b; entries = 2 }

-- with room for 2 objects, 1 link and 3 bytes more
abbrev short : ℕ → ℕ → ℕ → List ℕ → Bool
short o l b list = short_having (needs 2 1 3) full list (needs o l b)

unfoldable pub pins : List Bool
pins =
    not (short 2 1 4 (0 ∷ 0 ∷ [])) ∷ short 3 1 4 (0 ∷ 0 ∷ []) ∷ short 2 2 4 (0 ∷ 0 ∷ []) ∷ short 2 1 5 (0 ∷ 0 ∷ []) ∷ short 2 1 4 (0 ∷ []) ∷ not (short 0 0 0 (0 ∷ 0 ∷ []))
    ∷ []

pub pinned : every pins ≡ true
unfolding compared.computes Folds.computes Stores.computes short_having full pins
pinned = refl
