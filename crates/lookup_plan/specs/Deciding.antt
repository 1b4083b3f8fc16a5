-- What is decided of a lookup list and a table before anything is written. Assumes nothing.
use Rattle.std.specs.Prelude.{ℕ, ◌≡◌, List, ◌++◌, Result, Ok}
use Rattle.store_rules.specs.Store.{Store}
use Rattle.call_rules.specs.declared.Settings.{Settings}
use Rattle.call_rules.specs.Scratch.{Scratch}
use Rattle.call_rules.specs.Answers.{first_case, refusal}
use Rattle.call_rules.specs.declared.Answer.{Answer}
use Rattle.call_lists.specs.declared.Plan.{Plan}
use Rattle.pair_rules.specs.Calls.{cut_cases}
use Rattle.pair_checks.specs.declared.PairTable.{PairTable}
use Rattle.pair_plan.specs.Decided.{Decided}
use Rattle.lookup_rules.specs.Calls.{list_cases}

-- the first of 12, 1, 2, 9 and of what a split asks that applies decides; where none does, the table is decided as for a split
pub record ListDecided (how : Settings) (s : Store) (l t : ℕ) (w : Scratch) (d : Result (Plan PairTable) Answer) (gs ks cuts : List ℕ) : Type 0 where
  pub answers : first_case (list_cases how s l t ++ cut_cases how s t w) ≡ refusal d
  pub decided : (p : Plan PairTable) → d ≡ Ok p → Decided how s t w d gs ks cuts
