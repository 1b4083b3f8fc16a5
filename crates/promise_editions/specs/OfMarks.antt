-- What edition 2 guarantees of mark-to-base tables, beyond document 02: of what a split of table t under edition 2 leaves in the caller's buffers, where s is
-- what it was lent, and o what it answers and what then stands there. Assumes nothing.
use Rattle.std.specs.Prelude.{ℕ, ◌≤◌, ◌<◌, ◌≡◌, true, false, List, length}
use Rattle.store_rules.specs.Store.{Store}
use Rattle.cut_rules.specs.Places.{places_ascend}
use Rattle.call_rules.specs.Settings.{second_edition}
use Rattle.call_rules.specs.Scratch.{Scratch}
use Rattle.call_rules.specs.Outcomes.{Outcome}
use Rattle.mark_rules.specs.Table.{classes_of}
use Rattle.mark_rules.specs.Calls.{mark_split_call, scratch_short}
use Rattle.mark_fits.specs.Guaranteed.{within_by2, MarksFitIn}
use Rattle.promise_calls.specs.Unchanged.{Unchanged}
use Rattle.promise_calls.specs.Resulting.{OfTables}

-- splitting table u of s under edition 2, scratch being enough, adds nothing: it answers 0, and nothing changes
abbrev pub MarkUncut : Store → ℕ → Type 0
MarkUncut s u =
    (w : Scratch) (list : List ℕ) → scratch_short s u w ≡ false
    → ((mark_split_call second_edition s u w list).answer ≡ 0) × Unchanged s w list (mark_split_call second_edition s u w list)

pub record MarksGuaranteed (s : Store) (t : ℕ) (o : Outcome) : Type 0 where
  -- each resulting table with two or more classes, together with its coverages, its arrays and all that their links reach, is at most 65,535 bytes
  pub fits : OfTables t o MarksFitIn
  -- no choice of fewer cuts has that property by edition 2's estimate: of all lists of places, those that cut at 0 too
  pub fewest : (cs : List ℕ) → places_ascend 0 (classes_of s t) cs ≡ true → within_by2 s t cs ≡ true → o.count ≤ length cs
  -- splitting any of the resulting tables again adds nothing
  pub again : OfTables t o MarkUncut

-- of a call that answers 0 and reports new tables
abbrev pub MarksGuaranteedThen : Store → ℕ → Outcome → Type 0
MarksGuaranteedThen s t o = o.answer ≡ 0 → 0 < o.count → MarksGuaranteed s t o
