-- What is decided before anything is written. Assumes nothing.
use Rattle.std.specs.Prelude.{ℕ, ◌≡◌, List, Result, Ok}
use Rattle.store_rules.specs.Store.{Store}
use Rattle.call_rules.specs.declared.Settings.{Settings}
use Rattle.call_rules.specs.Scratch.{Scratch, lengths_of}
use Rattle.call_rules.specs.Answers.{first_case, refusal}
use Rattle.cut_filling.specs.Filling.{Placed}
use Rattle.call_rules.specs.declared.Answer.{Answer}
use Rattle.call_lists.specs.declared.Plan.{Plan}
use Rattle.mark_rules.specs.Table.{cut_places}
use Rattle.mark_rules.specs.Calls.{cut_cases}
use Rattle.mark_checks.specs.Called.{Passed}
use Rattle.mark_checks.specs.declared.MarkTable.{MarkTable}

-- the plan that is to be carried out: the table has passed the checks, and its cuts stand at the front of the scratch
pub record Planned (how : Settings) (s : Store) (t : ℕ) (w : Scratch) (p : Plan MarkTable) (cuts : List ℕ) : Type 0 where
  pub passed : Passed s t (lengths_of w) p.table
  pub placed : Placed (cut_places how s t) w.cuts cuts p.cuts

-- the first of the cases 12, then 1 to 7, that applies decides; where none does, there is a plan
pub record Decided (how : Settings) (s : Store) (t : ℕ) (w : Scratch) (d : Result (Plan MarkTable) Answer) (cuts : List ℕ) : Type 0 where
  pub answers : first_case (cut_cases how s t w) ≡ refusal d
  pub plans : (p : Plan MarkTable) → d ≡ Ok p → Planned how s t w p cuts
