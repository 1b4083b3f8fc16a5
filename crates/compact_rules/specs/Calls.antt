-- The call that compacts a store: "Refusals: 1, then 2 for a root not in use, then 6 (walk only); nothing is then changed." Assumes nothing.
use Rattle.std.specs.Prelude.{ℕ, ◌*◌, Bool, true, not, ◌&&◌, List, [], ◌∷◌, length, replicate, ltb, Option, Some, None}
use Rattle.store_rules.specs.Store.{Store, sound}
use Rattle.call_rules.specs.declared.Answer.TheVariants.{Unsound, NoTable, ShortScratch}
use Rattle.call_rules.specs.Answers.{Case, case, first_case}
use Rattle.compact_rules.specs.Kept.{kept}
use Rattle.compact_rules.specs.Compacted.{compacted, bytes_moved, roots_then}

-- each root is one of so many objects in use; what lies in the list is all roots, and one may stand in it twice
unfoldable pub roots_used : ℕ → List ℕ → Bool
roots_used n [] = true
roots_used n (r ∷ rs) = ltb r n && roots_used n rs

-- "1, then 2 for a root not in use, then 6 (walk only)": "walk, two numbers an object in use"
unfoldable pub compact_cases : Store → List ℕ → List ℕ → List Case
compact_cases s roots walk =
    case Unsound (not (sound s))
    ∷ case NoTable (not (roots_used s.object_count roots))
    ∷ case ShortScratch (ltb (length walk) (2 * s.object_count))
    ∷ []

-- at exit of a compaction
pub record CompactOutcome : Type 0 where
  pub answer : ℕ
  pub moved : ℕ
  pub store : Store
  pub roots : List ℕ
  pub walk : List ℕ

-- for contracts
abbrev pub compact_outcome : ℕ → ℕ → Store → List ℕ → List ℕ → CompactOutcome
compact_outcome n m s roots walk = record { answer = n; moved = m; store = s; roots = roots; walk = walk }

-- "All lent scratch is zero after every call."
abbrev pub walk_left : List ℕ → List ℕ
walk_left walk = replicate (length walk) 0

-- the call goes ahead
unfoldable pub compact_done : Store → (ℕ → Bool) → List ℕ → List ℕ → CompactOutcome
compact_done s keep roots walk = compact_outcome 0 (bytes_moved s keep) (compacted s keep) (roots_then keep roots) (walk_left walk)

-- "nothing is then changed"
unfoldable pub settle_compact : Option ℕ → Store → List ℕ → List ℕ → CompactOutcome → CompactOutcome
settle_compact (Some n) s roots walk o = compact_outcome n 0 s roots (walk_left walk)
settle_compact None s roots walk o = o

-- the outcome of a compaction
unfoldable pub compaction_call : Store → List ℕ → List ℕ → CompactOutcome
compaction_call s roots walk = settle_compact (first_case (compact_cases s roots walk)) s roots walk (compact_done s (kept s roots) roots walk)

-- all of this file's definitions, for checks that compute
unfoldable pub computes : Unit {0}
unfolding roots_used compact_cases compact_done settle_compact compaction_call
computes = tt
