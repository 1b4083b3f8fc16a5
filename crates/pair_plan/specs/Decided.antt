-- What is decided before anything is written. Assumes nothing.
use Rattle.std.specs.Prelude.{ℕ, ◌≡◌, cond, List, Result, Ok, Err}
use Rattle.store_rules.specs.Store.{Store}
use Rattle.store_rules.specs.Reach.{on_cycle}
use Rattle.call_rules.specs.declared.Answer.TheVariants.{BadLinks, UnsortedSets}
use Rattle.call_rules.specs.declared.Settings.{Settings}
use Rattle.call_rules.specs.Scratch.{Scratch}
use Rattle.call_rules.specs.Answers.{first_case, refusal}
use Rattle.call_rules.specs.declared.Answer.{Answer}
use Rattle.call_lists.specs.declared.Plan.{Plan}
use Rattle.pair_rules.specs.Table.{sets_sorted}
use Rattle.pair_rules.specs.Calls.{cut_cases}
use Rattle.pair_checks.specs.Opens.{Opens}
use Rattle.pair_checks.specs.declared.PairTable.{PairTable}
use Rattle.pair_plan.specs.Cutting.{CutsTable}

-- once the places are known: 7 where the table can be reached from itself, then 11, and else the plan
unfoldable pub settled_by : Store → ℕ → Plan PairTable → Result (Plan PairTable) Answer
settled_by s t p = cond (on_cycle s t) (Err BadLinks) (cond (sets_sorted s t) (Ok p) (Err UnsortedSets))

-- the plan that is to be carried out: the table is open, and its cuts, and in format 2 its covered glyphs by class, stand at the front of the scratch
pub record Planned (how : Settings) (s : Store) (t : ℕ) (w : Scratch) (p : Plan PairTable) (gs ks cuts : List ℕ) : Type 0 where
  pub opens : Opens s t p.table
  pub cut : CutsTable how s t p.table w.glyphs w.classes w.cuts gs ks cuts p.cuts

-- the first of the cases 12, 1 to 7 and 11 that applies decides; where none does, there is a plan
pub record Decided (how : Settings) (s : Store) (t : ℕ) (w : Scratch) (d : Result (Plan PairTable) Answer) (gs ks cuts : List ℕ) : Type 0 where
  pub answers : first_case (cut_cases how s t w) ≡ refusal d
  pub plans : (p : Plan PairTable) → d ≡ Ok p → Planned how s t w p gs ks cuts
