-- What is promised of any call that its cases settle or that goes ahead: it decides the outcome. Assumes nothing.
use Rattle.std.specs.Prelude.{ℕ, ◌≡◌, List}
use Rattle.store_rules.specs.Store.{Store}
use Rattle.call_rules.specs.Answers.{Case}
use Rattle.call_rules.specs.Scratch.{Scratch, cleared}
use Rattle.call_rules.specs.Outcomes.{Outcome}
use Rattle.promise_calls.specs.Given.{Gives}
use Rattle.promise_calls.specs.Unchanged.{Unchanged}

-- of a call with these cases that is lent s, w and list: `May` is what has to hold for it to go ahead, and `Leaves` what it then leaves
pub record CallKeeps (cases : List Case) (May : Type 0) (Leaves : Outcome → Type 0) (s : Store) (w : Scratch) (list : List ℕ) (o : Outcome) : Type 0 where
  -- "Given exactly if (first that applies, in this order)"
  pub answers : Gives cases o.answer
  pub ahead : May → Leaves o
  -- and else nothing changes: "After a refusal the store, its counts and the list of new tables are as they came, the scratch is zero, zero new tables
  -- are reported."; "With no cut, 0 also changes nothing."
  pub nothing : (May → ⊥) → Unchanged s w list o
  -- "All lent scratch is zero after every call."
  pub zero : o.scratch ≡ cleared w
