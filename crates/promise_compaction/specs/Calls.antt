-- The demands, of what a compaction leaves in the caller's buffers: s, roots and walk are what it was lent, and o is what it answers and what then
-- stands there. Assumes nothing.
use Rattle.std.specs.Prelude.{ℕ, ◌*◌, ◌≤◌, ◌≡◌, true, cond, not, ◌&&◌, List, map, length, eqb}
use Rattle.folds.specs.Folds.{sum}
use Rattle.store_rules.specs.Store.{Store, sound, head_of, size_of}
use Rattle.compact_rules.specs.Kept.{kept}
use Rattle.compact_rules.specs.Calls.{CompactOutcome, compact_outcome, compact_cases, compaction_call, roots_used, walk_left}
use Rattle.promise_calls.specs.Given.{Gives, AnswersExactly}
use Rattle.promise_calls.specs.Unchanged.{Octets}
use Rattle.promise_compaction.specs.Kept.{new_number, AllKept}
use Rattle.promise_compaction.specs.Rests.{NoGaps, AllWiped, RoomFreed}
use Rattle.promise_compaction.specs.Readings.{ReadingsKept}
use Rattle.promise_compaction.specs.NextSplits.{CutsKept, NextSplits}

-- none of 1, 2 and 6 applies
pub record MayCompact (s : Store) (roots walk : List ℕ) : Type 0 where
  pub sounds : sound s ≡ true
  pub used : roots_used s.object_count roots ≡ true
  pub enough : 2 * s.object_count ≤ length walk

-- "bytes moved: the summed lengths of kept objects whose place changed (the head)", in the two stores
abbrev pub moved_to : Store → List ℕ → Store → ℕ
moved_to s roots left =
    sum (λ i. cond (kept s roots i && not (eqb (head_of left (new_number s roots i)) (head_of s i))) (size_of s i) 0) s.object_count

-- after a compaction
pub record CompactLeaves (s : Store) (roots : List ℕ) (o : CompactOutcome) : Type 0 where
  pub answers : o.answer ≡ 0
  -- the store can be lent again
  pub sounds : sound o.store ≡ true
  pub octets : Octets s → Octets o.store
  -- "keep what kind 0 links reach from them, in the old order, close all gaps, renumber objects and links, drop order-only links that lose an end"
  pub keeps : AllKept s roots o.store
  pub gaps : NoGaps o.store
  -- "report bytes moved: .., at most the data left in use"
  pub moved : o.moved ≡ moved_to s roots o.store
  pub most : o.moved ≤ o.store.byte_count
  -- "Every pair answer from kept tables is the same, with devices under their new numbers."
  pub readings : ReadingsKept s roots o.store
  -- "The root list is rewritten in the new numbers"
  pub rewritten : o.roots ≡ map (new_number s roots) roots
  -- "what lies between the new and the old counts is zero"
  pub wiped : AllWiped s o.store
  -- "Freed room is used by the next split."
  pub freed : RoomFreed s o.store
  pub cuts : CutsKept s roots o.store
  pub next : NextSplits s roots o.store
  -- compacting again by the rewritten roots changes nothing and moves nothing
  pub again : (walk : List ℕ) → 2 * o.store.object_count ≤ length walk → compaction_call o.store o.roots walk ≡ compact_outcome 0 0 o.store o.roots (walk_left walk)

-- a compaction
pub record CompactKeeps (s : Store) (roots walk : List ℕ) (o : CompactOutcome) : Type 0 where
  -- "Refusals: 1, then 2 for a root not in use, then 6 (walk only)"
  pub answers : Gives (compact_cases s roots walk) o.answer
  pub ahead : MayCompact s roots walk → CompactLeaves s roots o
  -- "nothing is then changed"
  pub nothing : (MayCompact s roots walk → ⊥) → (o.moved ≡ 0) × (o.store ≡ s) × (o.roots ≡ roots)
  -- "All lent scratch is zero after every call."
  pub zero : o.walk ≡ walk_left walk

-- every compaction does
abbrev pub CompactionPromised : Type 0
CompactionPromised = (s : Store) (roots walk : List ℕ) → CompactKeeps s roots walk (compaction_call s roots walk)

-- "Given exactly if (first that applies, in this order)": each number, and 0 exactly if none of 1, 2 and 6 applies
abbrev pub CompactsExactly : Type 0
CompactsExactly =
    (s : Store) (roots walk : List ℕ)
    → AnswersExactly (compact_cases s roots walk) (compaction_call s roots walk).answer
    × ((compaction_call s roots walk).answer ≡ 0 → MayCompact s roots walk) × (MayCompact s roots walk → (compaction_call s roots walk).answer ≡ 0)
