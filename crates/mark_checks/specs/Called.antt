-- What the checks say that need no scratch but its lengths: 1 to 6, and the slots of 7. Assumes nothing.
use Rattle.std.specs.Prelude.{ℕ, ◌≡◌, true, false, Some, Err, Ok, Result}
use Rattle.store_rules.specs.Store.{Store}
use Rattle.call_rules.specs.declared.Answer.{Answer}
use Rattle.call_rules.specs.declared.Lengths.{Lengths}
use Rattle.call_rules.specs.declared.Settings.{Settings}
use Rattle.call_rules.specs.Answers.{number, first_case}
use Rattle.call_rules.specs.Settings.{known}
use Rattle.call_rules.specs.Scratch.{Scratch, lengths_of, lengths_short}
use Rattle.mark_rules.specs.Table.{all_at_slots}
use Rattle.mark_rules.specs.Calls.{cut_cases}
use Rattle.mark_checks.specs.declared.MarkTable.{MarkTable}
use Rattle.mark_checks.specs.Opens.{Opens}

-- a table that is open, scratch that is long enough, and links that stand at slots
pub record Passed (s : Store) (t : ℕ) (n : Lengths) (p : MarkTable) : Type 0 where
  pub opens : Opens s t p
  pub long : lengths_short n s.object_count p.glyphs p.classes ≡ false
  pub slots : all_at_slots s t ≡ true

-- by any settings that are known the call has its answer, whatever the scratch of these lengths holds, or all of this is passed
pub record Calls (s : Store) (t : ℕ) (n : Lengths) (r : Result MarkTable Answer) : Type 0 where
  pub refuses : (a : Answer) → r ≡ Err a
      → (how : Settings) → known how ≡ true → (w : Scratch) → lengths_of w ≡ n → first_case (cut_cases how s t w) ≡ Some (number a)
  pub passes : (p : MarkTable) → r ≡ Ok p → Passed s t n p
