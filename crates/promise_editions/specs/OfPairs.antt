-- "What edition 2 guarantees.", of what a split of pair table t under edition 2 leaves in the caller's buffers: s is what it was lent, and o what it answers and
-- what then stands there. Assumes nothing.
use Rattle.std.specs.Prelude.{ℕ, ◌≤◌, ◌<◌, ◌≡◌, true, false, List, length}
use Rattle.store_rules.specs.Store.{Store}
use Rattle.cut_rules.specs.Places.{places_ascend}
use Rattle.call_rules.specs.Settings.{second_edition}
use Rattle.call_rules.specs.Scratch.{Scratch}
use Rattle.call_rules.specs.Outcomes.{Outcome}
use Rattle.pair_rules.specs.Table.{shape}
use Rattle.pair_rules.specs.Calls.{split_call, scratch_short}
use Rattle.pair_fits.specs.Guaranteed.{within_by2, SetsFitIn, RowsFitIn}
use Rattle.promise_calls.specs.Unchanged.{Unchanged}
use Rattle.promise_calls.specs.Resulting.{OfTables}

-- splitting table u of s under edition 2, "scratch being enough, adds nothing": it answers 0, and nothing changes
abbrev pub PairUncut : Store → ℕ → Type 0
PairUncut s u =
    (w : Scratch) (list : List ℕ) → scratch_short s u w ≡ false
    → ((split_call second_edition s u w list).answer ≡ 0) × Unchanged s w list (split_call second_edition s u w list)

pub record PairsGuaranteed (s : Store) (t : ℕ) (o : Outcome) : Type 0 where
  -- "For format 1 .. each resulting table with two or more items, together with its coverage and all that its pair sets reach, is at most 65,535 bytes."
  pub sets : (shape s t).format ≡ 1 → OfTables t o SetsFitIn
  -- "No choice of fewer cuts has that property by edition 2's estimate.": of all lists of places, those that cut at 0 too
  pub fewest : (shape s t).format ≡ 1 → (cs : List ℕ) → places_ascend 0 (shape s t).count cs ≡ true → within_by2 s t cs ≡ true → o.count ≤ length cs
  -- "And in both PairPos formats, splitting any of the resulting tables again, scratch being enough, adds nothing."
  pub again : OfTables t o PairUncut
  -- beyond document 02, for format 2: together with all that its rows reach, and with coverage and both class definitions but for the largest of these three
  pub rows : (shape s t).format ≡ 2 → OfTables t o RowsFitIn

-- of a call that answers 0 and reports new tables
abbrev pub PairsGuaranteedThen : Store → ℕ → Outcome → Type 0
PairsGuaranteedThen s t o = o.answer ≡ 0 → 0 < o.count → PairsGuaranteed s t o
