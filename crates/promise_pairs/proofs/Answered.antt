-- When there is a split, a plan or a pair, and which number is answered: each exactly if document 01 says so. Assumes nothing.
use Rattle.std.specs.Prelude.{Option, Some, None}
use Prim.Native.Nat.{ℕ, ◌<◌}
use mathlib.Core.Path.{◌≡◌, refl, ap, subst, ◌∙◌}
use mathlib.Core.Bool.{Bool, true, false, cond}
use mathlib.Core.List.{List}
use native.Mathlib.Omega.{arith}
use lib.ListN.{length}
use Rattle.folds.proofs.Folds.{length-upto}
use Rattle.store_rules.specs.Store.{Store}
use Rattle.store_rules.specs.Appended.{new_number}
use Rattle.call_rules.specs.declared.Settings.{Settings}
use Rattle.call_rules.specs.Scratch.{Scratch}
use Rattle.call_rules.specs.Answers.{first_case}
use Rattle.call_rules.specs.Outcomes.{Outcome, settle, done}
use Rattle.pair_rules.specs.Table.{cut_places, shape}
use Rattle.pair_rules.specs.Written.{new_tables, per_table}
use Rattle.pair_rules.specs.Pairs.{no_pair, pair_of}
use Rattle.pair_rules.specs.Reads.{ReadsPairs}
use Rattle.pair_rules.specs.Calls.{split_call, plan_call, pair_call, split_cases, plan_cases, pair_cases, reported, settle_pair}
use Rattle.pair_rules.proofs.SortedSets.{no_case_pairs, pairs_no_case}
use Rattle.promise_calls.specs.Given.{Gives}
use Rattle.promise_calls.proofs.Settled.{went}
use Rattle.promise_calls.proofs.Given.{answer_of, gives_first, settle_gives, exactly}
use Rattle.promise_pairs.specs.Demands.{Splits}
use Rattle.promise_pairs.specs.Exactly.{MaySplit, MayPlan, SplitsExactly, PlansExactly, PairsExactly, PairAnswersExactly}
use Rattle.promise_pairs.proofs.Exactly.{splits_no_case, no_case_plans, plans_no_case}
use Rattle.promise_pairs.proofs.GoesAhead.{split_ahead, splits_may}
use Rattle.promise_pairs.proofs.Refusals.{plan_ahead}

-- ---- a split

module _ (how : Settings) (s : Store) (t : ℕ) (w : Scratch) (list : List ℕ) where
  pub may_splits : MaySplit how s t w list → Splits how s t w list
  unfolding split_call settle done new_tables
  may_splits m =
      let ahead : split_call how s t w list ≡ split_ahead how s t w list
      = ap (λ (c : Option ℕ). settle c s list w (split_ahead how s t w list)) (splits_no_case how s t w list m) in
      let many = ap (λ (o : Outcome). o.count) ahead ∙ length-upto (new_number s (per_table (shape s t))) (length (cut_places how s t)) in
      record { answers = ap (λ (o : Outcome). o.answer) ahead; cuts = omega (arith, many, m.cuts) }

  -- ---- a plan

  pub may_plans : MayPlan how s t w list → plan_call how s t w list ≡ plan_ahead how s t w list
  unfolding plan_call settle
  may_plans m = ap (λ (c : Option ℕ). settle c s list w (plan_ahead how s t w list)) (plans_no_case how s t w list m)

  plans_may : 0 < (plan_call how s t w list).count → MayPlan how s t w list
  unfolding plan_call
  plans_may h = no_case_plans how s t w list (went s w list (plan_ahead how s t w list) (first_case (plan_cases how s t w list)) h)

-- the answer is 0 with new tables exactly if checks 12, 1 to 7 and 11 pass, there is a cut and room is enough
pub splits_exactly : SplitsExactly
splits_exactly how s t w list = (splits_may how s t w list, may_splits how s t w list)

-- places are handed out exactly if checks 12, 1 to 7 and 11 pass, there is a cut and the list is long enough
pub plans_exactly : PlansExactly
unfolding done
plans_exactly how s t w list = (
  λ h. let m = plans_may how s t w list h in (m, subst (λ (o : Outcome). 0 < o.count) (may_plans how s t w list m) h),
  may_plans how s t w list,
)

-- ---- a pair

pub may_pair : (s : Store) (t a b : ℕ) → ReadsPairs s t → pair_call s t a b ≡ reported 0 (pair_of s t a b)
unfolding pair_call settle_pair
may_pair s t a b r = ap (λ (c : Option ℕ). settle_pair c (pair_of s t a b)) (pairs_no_case s t r)

-- there is a pair exactly if checks 1 to 5 and 11 pass, the format is 1 or 2, and the table has one
pub pairs_exactly : PairsExactly
unfolding pair_call settle_pair no_pair
pairs_exactly s t a b = (go (first_case (pair_cases s t)) refl, may_pair s t a b)
  where
    found : (f : Bool) → ◌≡◌ {A = ℕ} (cond f 1 0) 1 → f ≡ true
    found true e = refl
    found false e = absurd (omega arith)

    go : (c : Option ℕ) → first_case (pair_cases s t) ≡ c → (settle_pair c (pair_of s t a b)).found ≡ 1 → ReadsPairs s t × ((pair_of s t a b).found ≡ true)
    go (Some n) e h = absurd (omega (arith, h))
    go None e h = (no_case_pairs s t e, found (pair_of s t a b).found h)

-- ---- the number

pub split_gives : (how : Settings) (s : Store) (t : ℕ) (w : Scratch) (list : List ℕ) → Gives (split_cases how s t w list) (split_call how s t w list).answer
unfolding split_call done
split_gives how s t w list = settle_gives (split_cases how s t w list) s w list (split_ahead how s t w list) refl

pub plan_gives : (how : Settings) (s : Store) (t : ℕ) (w : Scratch) (list : List ℕ) → Gives (plan_cases how s t w list) (plan_call how s t w list).answer
unfolding plan_call done
plan_gives how s t w list = settle_gives (plan_cases how s t w list) s w list (plan_ahead how s t w list) refl

pub pair_gives : (s : Store) (t a b : ℕ) → Gives (pair_cases s t) (pair_call s t a b).answer
unfolding pair_call settle_pair
pair_gives s t a b = go (first_case (pair_cases s t)) (gives_first (pair_cases s t))
  where
    go : (c : Option ℕ) → Gives (pair_cases s t) (answer_of c) → Gives (pair_cases s t) (settle_pair c (pair_of s t a b)).answer
    go (Some n) g = g
    go None g = g

-- "Given exactly if (first that applies, in this order)"
pub answers_exactly : PairAnswersExactly
answers_exactly how s t w list = (
  exactly (split_cases how s t w list) (split_call how s t w list).answer (split_gives how s t w list),
  exactly (plan_cases how s t w list) (plan_call how s t w list).answer (plan_gives how s t w list),
  λ a b. exactly (pair_cases s t) (pair_call s t a b).answer (pair_gives s t a b),
)
