-- What a call leaves that enters nothing; when it enters new tables, and which number it answers. Assumes nothing.
use Rattle.std.specs.Prelude.{Option}
use Prim.Native.Nat.{ℕ}
use mathlib.Core.Path.{◌≡◌, refl, ap, ◌∙◌}
use mathlib.Core.List.{List}
use native.Mathlib.Omega.{arith}
use lib.ListN.{length}
use Rattle.folds.proofs.Folds.{length-upto}
use Rattle.store_rules.specs.Store.{Store}
use Rattle.store_rules.specs.Appended.{new_number}
use Rattle.call_rules.specs.declared.Settings.{Settings}
use Rattle.call_rules.specs.Scratch.{Scratch}
use Rattle.call_rules.specs.Answers.{first_case}
use Rattle.call_rules.specs.Outcomes.{Outcome, settle, done}
use Rattle.pair_rules.specs.Table.{cut_places, shape}
use Rattle.pair_rules.specs.Written.{new_tables, per_table}
use Rattle.lookup_rules.specs.Written.{lookup_store}
use Rattle.lookup_rules.specs.Calls.{lookup_cases, lookup_call, enter_ahead}
use Rattle.promise_calls.specs.Given.{Gives}
use Rattle.promise_calls.proofs.Settled.{refuses, stands, zeroed, went}
use Rattle.promise_calls.proofs.Given.{settle_gives, exactly}
use Rattle.promise_lookups.specs.Demands.{LookupRefusals, NoCutNoEntry, LookupScratchZero, Enters, EntersAsMany, store_entered}
use Rattle.promise_lookups.specs.Exactly.{MayEnter, EntersExactly, LookupAnswersExactly}
use Rattle.promise_lookups.proofs.Exactly.{no_case_enters, enters_no_case}

-- ---- nothing is entered

-- "Each number but 0, those added later too, returns a count of 0 new tables and keeps store, counts and result list."
pub lookup_refusals : LookupRefusals
unfolding lookup_call done
lookup_refusals how s l t w list = refuses s w list (enter_ahead s l t (cut_places how s t) w list) (first_case (lookup_cases how s l t w list)) refl

-- "With no cut nothing changes."
pub no_cut_no_entry : NoCutNoEntry
unfolding lookup_call
no_cut_no_entry how s l t w list e =
    let none_cut : MayEnter how s l t w list → ⊥ = λ m. omega (arith, m.cuts, ap length e) in
    stands s w list (enter_ahead s l t (cut_places how s t) w list) (first_case (lookup_cases how s l t w list)) (λ c. none_cut (no_case_enters how s l t w list c))

-- "All lent scratch is zero after every call."
pub lookup_scratch_zero : LookupScratchZero
unfolding lookup_call done
lookup_scratch_zero how s l t w list = zeroed s w list (enter_ahead s l t (cut_places how s t) w list) (first_case (lookup_cases how s l t w list)) refl

-- ---- new tables are entered

module _ (how : Settings) (s : Store) (l t : ℕ) (w : Scratch) (list : List ℕ) where
  may_ahead : MayEnter how s l t w list → lookup_call how s l t w list ≡ enter_ahead s l t (cut_places how s t) w list
  unfolding lookup_call settle
  may_ahead m = ap (λ (c : Option ℕ). settle c s list w (enter_ahead s l t (cut_places how s t) w list)) (enters_no_case how s l t w list m)

  ahead_many : (enter_ahead s l t (cut_places how s t) w list).count ≡ length (cut_places how s t)
  unfolding done new_tables
  ahead_many = length-upto (new_number s (per_table (shape s t))) (length (cut_places how s t))

  pub may_enters : MayEnter how s l t w list → Enters how s l t w list
  unfolding done
  may_enters m =
      let ahead = may_ahead m in
      let count : (lookup_call how s l t w list).count ≡ length (cut_places how s t) = ap (λ (o : Outcome). o.count) ahead ∙ ahead_many in
      record { answers = ap (λ (o : Outcome). o.answer) ahead; cuts = omega (arith, count, m.cuts) }

  pub enters_may : Enters how s l t w list → MayEnter how s l t w list
  unfolding lookup_call
  enters_may p = no_case_enters how s l t w list (went s w list (enter_ahead s l t (cut_places how s t) w list) (first_case (lookup_cases how s l t w list)) p.cuts)

  -- the store at exit is the written one
  pub store_entered_lem : Enters how s l t w list → store_entered how s l t w list ≡ lookup_store s l t (cut_places how s t)
  unfolding done
  store_entered_lem p = ap (λ (o : Outcome). o.store) (may_ahead (enters_may p))

-- the answer is 0 with new tables exactly if what has to hold does
pub enters_exactly : EntersExactly
enters_exactly how s l t w list = (enters_may how s l t w list, may_enters how s l t w list)

-- as many new tables as cuts, and their numbers
pub enters_as_many : EntersAsMany
unfolding done
enters_as_many how s l t w list p =
    let ahead = may_ahead how s l t w list (enters_may how s l t w list p) in
    (ap (λ (o : Outcome). o.count) ahead ∙ ahead_many how s l t w list, ap (λ (o : Outcome). o.list) ahead)

-- ---- the number

pub lookup_gives : (how : Settings) (s : Store) (l t : ℕ) (w : Scratch) (list : List ℕ) → Gives (lookup_cases how s l t w list) (lookup_call how s l t w list).answer
unfolding lookup_call done
lookup_gives how s l t w list = settle_gives (lookup_cases how s l t w list) s w list (enter_ahead s l t (cut_places how s t) w list) refl

-- "Given exactly if (first that applies, in this order)"
pub lookup_answers_exactly : LookupAnswersExactly
lookup_answers_exactly how s l t w list = exactly (lookup_cases how s l t w list) (lookup_call how s l t w list).answer (lookup_gives how s l t w list)
