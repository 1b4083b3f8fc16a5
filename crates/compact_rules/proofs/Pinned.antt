-- Compaction held against small stores, as one check; each line pins what its comment says. Assumes nothing.
use Prim.Native.Nat.{ℕ}
use mathlib.Core.Path.{◌≡◌, refl}
use mathlib.Core.Bool.{Bool, true, not, ◌&&◌}
use mathlib.Core.List.{List, [], ◌∷◌, ◌++◌}
use lib.ListN.{replicate}
use lib.Dec.{eqb}
use Rattle.folds.specs.Folds as Folds
use Rattle.folds.specs.Lists as Lists
use Rattle.folds.proofs.Compared as compared
use Rattle.folds.proofs.Compared.{same, every}
use Rattle.store_rules.specs.Store as Store
use Rattle.store_rules.specs.Reach as Reach
use Rattle.store_rules.specs.Appended as Appended
use Rattle.call_rules.specs.Answers as Answers
use Rattle.compact_rules.specs.Kept as Kept
use Rattle.compact_rules.specs.Kept.{kept, renumber}
use Rattle.compact_rules.specs.Compacted as Compacted
use Rattle.compact_rules.specs.Calls as Calls
use Rattle.compact_rules.specs.Calls.{CompactOutcome, compaction_call}

-- a store with these link rows: objects 0 of two bytes, 1 of three, then a gap of one, 2 of four, 3 of none, 4 of two; none of what lies behind is zero
unfoldable pub store_of : ℕ → List ℕ → Store.Store
store_of n links =
    record {
      bytes = 1 ∷ 2 ∷ 11 ∷ 12 ∷ 13 ∷ 99 ∷ 21 ∷ 22 ∷ 23 ∷ 24 ∷ 41 ∷ 42 ∷ 77 ∷ 77 ∷ [];
      objects = 0 ∷ 2 ∷ 2 ∷ 5 ∷ 6 ∷ 10 ∷ 10 ∷ 10 ∷ 10 ∷ 12 ∷ 77 ∷ 77 ∷ 77 ∷ [];
      links = links ++ (77 ∷ 77 ∷ []);
      byte_count = 12;
      object_count = 5;
      link_count = n;
    }

-- 0 leads to 2, which leads to 4 and to itself; order-only: 0 to 3 and 4, 1 to 0, 4 to 0
unfoldable pub night : Store.Store
night =
    store_of 7
    (0 ∷ 0 ∷ 2 ∷ 2 ∷ 0
    ∷ 0 ∷ 0 ∷ 0 ∷ 3 ∷ 1
    ∷ 0 ∷ 0 ∷ 0 ∷ 4 ∷ 1
    ∷ 1 ∷ 0 ∷ 0 ∷ 0 ∷ 1
    ∷ 2 ∷ 0 ∷ 2 ∷ 4 ∷ 0
    ∷ 2 ∷ 2 ∷ 2 ∷ 2 ∷ 0
    ∷ 4 ∷ 0 ∷ 0 ∷ 0 ∷ 1
    ∷ [])

-- an outcome has this answer, these bytes moved, these buffers and counts, and these roots; and the walk is as many zeros
unfoldable pub leaves : CompactOutcome → ℕ → ℕ → List ℕ → List ℕ → List ℕ → List ℕ → List ℕ → ℕ → Bool
leaves o n m bytes objects links counts roots walk =
    eqb o.answer n && eqb o.moved m && same o.store.bytes bytes && same o.store.objects objects && same o.store.links links
    && same (o.store.byte_count ∷ o.store.object_count ∷ o.store.link_count ∷ []) counts && same o.roots roots && same o.walk (replicate walk 0)

-- all of the night's store is as it came
unfoldable pub refuses : CompactOutcome → ℕ → List ℕ → ℕ → Bool
refuses o n roots walk = leaves o n 0 night.bytes night.objects night.links (12 ∷ 5 ∷ 7 ∷ []) roots walk

-- so many numbers, none of them zero
abbrev dirty : ℕ → List ℕ
dirty n = replicate n 7

-- what is left of the night by root 0
unfoldable pub day : CompactOutcome
unfolding Folds.computes Lists.computes Store.computes Reach.computes Appended.computes Answers.computes Kept.computes Compacted.computes Calls.computes store_of night
day = compaction_call night (0 ∷ []) (dirty 10)

unfoldable pub pins : List Bool
pins =
    -- `kept`: by kind 0 links alone, the root too, along a cycle
    kept night (0 ∷ []) 0 ∷ not (kept night (0 ∷ []) 1) ∷ kept night (0 ∷ []) 2 ∷ not (kept night (0 ∷ []) 3) ∷ kept night (0 ∷ []) 4
    ∷ kept night (2 ∷ []) 2 ∷ not (kept night (2 ∷ []) 0) ∷ kept night (4 ∷ 3 ∷ []) 3 ∷ not (kept night (4 ∷ 3 ∷ []) 2) ∷ not (kept night [] 0)
    -- `renumber`: how many kept ones stand below
    ∷ eqb (renumber (kept night (0 ∷ [])) 0) 0 ∷ eqb (renumber (kept night (0 ∷ [])) 2) 1 ∷ eqb (renumber (kept night (0 ∷ [])) 4) 2
    -- by root 0: gaps closed, both kinds of links renumbered, order-only links that lose an end dropped, zeros up to the old counts
    ∷ leaves (compaction_call night (0 ∷ []) (dirty 10)) 0 6
    (1 ∷ 2 ∷ 21 ∷ 22 ∷ 23 ∷ 24 ∷ 41 ∷ 42 ∷ 0 ∷ 0 ∷ 0 ∷ 0 ∷ 77 ∷ 77 ∷ [])
    (0 ∷ 2 ∷ 2 ∷ 6 ∷ 6 ∷ 8 ∷ 0 ∷ 0 ∷ 0 ∷ 0 ∷ 77 ∷ 77 ∷ 77 ∷ [])
    (0 ∷ 0 ∷ 2 ∷ 1 ∷ 0 ∷ 0 ∷ 0 ∷ 0 ∷ 2 ∷ 1 ∷ 1 ∷ 0 ∷ 2 ∷ 2 ∷ 0 ∷ 1 ∷ 2 ∷ 2 ∷ 1 ∷ 0 ∷ 2 ∷ 0 ∷ 0 ∷ 0 ∷ 1 ∷ replicate 10 0 ++ (77 ∷ 77 ∷ []))
    (8 ∷ 3 ∷ 5 ∷ []) (0 ∷ []) 10
    -- a root that stands twice stays twice; the longer walk is zero to its end
    ∷ leaves (compaction_call night (4 ∷ 2 ∷ 4 ∷ []) (dirty 11)) 0 6
    (21 ∷ 22 ∷ 23 ∷ 24 ∷ 41 ∷ 42 ∷ 0 ∷ 0 ∷ 0 ∷ 0 ∷ 0 ∷ 0 ∷ 77 ∷ 77 ∷ [])
    (0 ∷ 4 ∷ 4 ∷ 6 ∷ 0 ∷ 0 ∷ 0 ∷ 0 ∷ 0 ∷ 0 ∷ 77 ∷ 77 ∷ 77 ∷ [])
    (0 ∷ 0 ∷ 2 ∷ 1 ∷ 0 ∷ 0 ∷ 2 ∷ 2 ∷ 0 ∷ 0 ∷ replicate 25 0 ++ (77 ∷ 77 ∷ []))
    (6 ∷ 2 ∷ 2 ∷ []) (1 ∷ 0 ∷ 1 ∷ []) 11
    -- an object of no bytes is kept, and moves none
    ∷ leaves (compaction_call night (3 ∷ []) (dirty 10)) 0 0 (replicate 12 0 ++ (77 ∷ 77 ∷ [])) (replicate 10 0 ++ (77 ∷ 77 ∷ 77 ∷ [])) (replicate 35 0 ++ (77 ∷ 77 ∷ []))
    (0 ∷ 1 ∷ 0 ∷ []) (0 ∷ []) 10
    -- no root keeps nothing
    ∷ leaves (compaction_call night [] (dirty 10)) 0 0 (replicate 12 0 ++ (77 ∷ 77 ∷ [])) (replicate 10 0 ++ (77 ∷ 77 ∷ 77 ∷ [])) (replicate 35 0 ++ (77 ∷ 77 ∷ []))
    (0 ∷ 0 ∷ 0 ∷ []) [] 10
    -- all roots: only the gap is closed, and what stood before it does not count as moved
    ∷ eqb (compaction_call night (1 ∷ 3 ∷ 0 ∷ []) (dirty 10)).moved 6 ∷ eqb (compaction_call night (1 ∷ 3 ∷ 0 ∷ []) (dirty 10)).store.byte_count 11
    -- a second time: nothing
    ∷ leaves (compaction_call day.store day.roots (dirty 6)) 0 0 day.store.bytes day.store.objects day.store.links (8 ∷ 3 ∷ 5 ∷ []) (0 ∷ []) 6
    -- 1, then 2, then 6; the walk is zero then too
    ∷ eqb (compaction_call (store_of 1 (5 ∷ 0 ∷ 2 ∷ 2 ∷ 0 ∷ [])) (5 ∷ []) (dirty 9)).answer 1
    ∷ refuses (compaction_call night (0 ∷ 5 ∷ []) (dirty 9)) 2 (0 ∷ 5 ∷ []) 9
    ∷ refuses (compaction_call night (0 ∷ []) (dirty 9)) 6 (0 ∷ []) 9
    ∷ refuses (compaction_call night [] (dirty 9)) 6 [] 9
    ∷ []

pub pinned : every pins ≡ true
unfolding compared.computes Folds.computes Lists.computes Store.computes Reach.computes Appended.computes Answers.computes Kept.computes Compacted.computes Calls.computes store_of night leaves refuses day pins
pinned = refl
