-- New tables entered in lookups with their places in hand, whatever these come from: what is known, and the outcome. Assumes nothing.
use Rattle.std.specs.Prelude.{ℕ, ◌*◌, ◌≤◌, not, List, [], ◌∷◌, length}
use Rattle.store_rules.specs.Store.{Store}
use Rattle.call_rules.specs.declared.Answer.TheVariants.{ManySubtables, NoRoom}
use Rattle.call_rules.specs.Answers.{Case, case, first_case}
use Rattle.call_rules.specs.Needs.{room_short}
use Rattle.call_rules.specs.Scratch.{Scratch}
use Rattle.call_rules.specs.Outcomes.{Outcome, done, settle}
use Rattle.call_lists.specs.declared.Plan.{Plan}
use Rattle.pair_rules.specs.Written.{new_tables}
use Rattle.pair_checks.specs.declared.PairTable.{PairTable}
use Rattle.pair_carrying.specs.Arranging.{Arranging}
use Rattle.pair_split.specs.Splitting.{PlanReady}
use Rattle.lookup_rules.specs.Calls.{enter_cases, enter_ahead}
use Rattle.lookup_rules.specs.Written.{counts_fit}
use Rattle.lookup_carrying.specs.Carrying.{store_entered_at, all_needed, WellLinked, GoodList, Found}

-- ---- the outcome of a split of t at cs and of its new tables, entered in the lookups ps

-- 10 and 8
abbrev pub room_cases : Store → ℕ → List ℕ → List ℕ → List ℕ → List Case
room_cases s t cs ps list =
    case ManySubtables (not (counts_fit s t (new_tables s t cs) ps)) ∷ case NoRoom (room_short s list (all_needed s t cs ps)) ∷ []

-- if none of these cases applies
abbrev pub entered_unless : List Case → Store → ℕ → List ℕ → List ℕ → Scratch → List ℕ → Outcome
entered_unless cases s t cs ps w list = settle (first_case cases) s list w (done (store_entered_at s t cs ps) (new_tables s t cs) list w)

-- what is left of the call over list l once its checks do not apply
abbrev pub entered_then : Store → ℕ → ℕ → List ℕ → Scratch → List ℕ → Outcome
entered_then s l t cs w list = settle (first_case (enter_cases s l t cs list)) s list w (enter_ahead s l t cs w list)

-- ---- as planned

-- the plan is ready to be carried out, the list is good, and the walk has two numbers an object
pub record EnterReady (s : Store) (l t : ℕ) (p : Plan PairTable) (gs ks cuts walk : List ℕ) : Type 0 where
  pub plan : PlanReady s t p gs ks cuts
  pub linked : WellLinked s t
  pub good : GoodList s l t
  pub long : 2 * s.object_count ≤ length walk

-- ---- at any places

-- the table can be cut at cs
pub record Placing (s : Store) (t : ℕ) (p : PairTable) (gs ks cs marks ps : List ℕ) : Type 0 where
  pub arranging : Arranging s t p gs ks cs
  pub few : length cs ≤ 65536
  pub linked : WellLinked s t
  pub found : Found s t marks ps
