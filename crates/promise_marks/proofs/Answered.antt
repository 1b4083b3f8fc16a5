-- When there is a split, a plan or an attachment, and which number is answered: each exactly if the documents say so. Assumes nothing.
use Rattle.std.specs.Prelude.{Option, Some, None}
use Prim.Native.Nat.{ℕ, ◌<◌}
use mathlib.Core.Path.{◌≡◌, refl, ap, subst, ◌∙◌}
use mathlib.Core.List.{List}
use native.Mathlib.Omega.{arith}
use Rattle.store_rules.specs.Store.{Store}
use Rattle.call_rules.specs.declared.Settings.{Settings}
use Rattle.call_rules.specs.Scratch.{Scratch}
use Rattle.call_rules.specs.Answers.{first_case}
use Rattle.call_rules.specs.Outcomes.{Outcome, settle, done}
use Rattle.mark_rules.specs.Table.{cut_places}
use Rattle.mark_rules.specs.Attachments.{Anchors, attach_of}
use Rattle.mark_rules.specs.Reads.{Reads}
use Rattle.mark_rules.specs.Calls.{mark_split_call, mark_plan_call, mark_call, split_cases, plan_cases, read_cases, reported, settle_mark}
use Rattle.mark_rules.proofs.Checks.{no_case_reads, reads_no_case}
use Rattle.mark_rules.proofs.NewCounts.{tables_many}
use Rattle.promise_calls.specs.Given.{Gives}
use Rattle.promise_calls.proofs.Settled.{went}
use Rattle.promise_calls.proofs.Given.{answer_of, gives_first, settle_gives, exactly}
use Rattle.promise_marks.specs.Demands.{Splits}
use Rattle.promise_marks.specs.Exactly.{MaySplit, MayPlan, SplitsExactly, PlansExactly, MarksExactly, MarkAnswersExactly}
use Rattle.promise_marks.proofs.Exactly.{splits_no_case, no_case_plans, plans_no_case}
use Rattle.promise_marks.proofs.Ready.{split_ahead, splits_may}
use Rattle.promise_marks.proofs.Refusals.{plan_ahead}

-- ---- a split

module _ (how : Settings) (s : Store) (t : ℕ) (w : Scratch) (list : List ℕ) where
  pub may_splits : MaySplit how s t w list → Splits how s t w list
  unfolding mark_split_call settle done
  may_splits m =
      let ahead : mark_split_call how s t w list ≡ split_ahead how s t w list
      = ap (λ (c : Option ℕ). settle c s list w (split_ahead how s t w list)) (splits_no_case how s t w list m) in
      let many = ap (λ (o : Outcome). o.count) ahead ∙ tables_many s t (cut_places how s t) in
      record { answers = ap (λ (o : Outcome). o.answer) ahead; cuts = omega (arith, many, m.cuts) }

  -- ---- a plan

  pub may_plans : MayPlan how s t w list → mark_plan_call how s t w list ≡ plan_ahead how s t w list
  unfolding mark_plan_call settle
  may_plans m = ap (λ (c : Option ℕ). settle c s list w (plan_ahead how s t w list)) (plans_no_case how s t w list m)

  plans_may : 0 < (mark_plan_call how s t w list).count → MayPlan how s t w list
  unfolding mark_plan_call
  plans_may h = no_case_plans how s t w list (went s w list (plan_ahead how s t w list) (first_case (plan_cases how s t w list)) h)

-- the answer is 0 with new tables exactly if checks 12 and 1 to 7 pass, there is a cut and room is enough
pub splits_exactly : SplitsExactly
splits_exactly how s t w list = (splits_may how s t w list, may_splits how s t w list)

-- places are handed out exactly if checks 12 and 1 to 7 pass, there is a cut and the list is long enough
pub plans_exactly : PlansExactly
unfolding done
plans_exactly how s t w list = (
  λ h. let m = plans_may how s t w list h in (m, subst (λ (o : Outcome). 0 < o.count) (may_plans how s t w list m) h),
  may_plans how s t w list,
)

-- ---- an attachment

pub may_mark : (s : Store) (t m b : ℕ) → Reads s t → mark_call s t m b ≡ reported 0 (attach_of s t m b)
unfolding mark_call settle_mark
may_mark s t m b r = ap (λ (c : Option ℕ). settle_mark c (attach_of s t m b)) (reads_no_case s t r)

-- there is an attachment exactly if checks 1 to 5 pass, the format is 1, and the table has one
pub marks_exactly : MarksExactly
unfolding mark_call settle_mark reported
marks_exactly s t m b = (go (first_case (read_cases s t)) refl, may_mark s t m b)
  where
    found : (a : Option Anchors) → (reported 0 a).found ≡ 1 → a ≡ None → ⊥
    found (Some a) h e = let z : ◌≡◌ {A = ℕ} 0 1 = cc in omega arith
    found None h e = omega (arith, h)

    go : (c : Option ℕ) → first_case (read_cases s t) ≡ c → (settle_mark c (attach_of s t m b)).found ≡ 1 → Reads s t × (attach_of s t m b ≡ None → ⊥)
    go (Some n) e h = absurd (omega (arith, h))
    go None e h = (no_case_reads s t e, found (attach_of s t m b) h)

-- ---- the number

pub split_gives : (how : Settings) (s : Store) (t : ℕ) (w : Scratch) (list : List ℕ) → Gives (split_cases how s t w list) (mark_split_call how s t w list).answer
unfolding mark_split_call done
split_gives how s t w list = settle_gives (split_cases how s t w list) s w list (split_ahead how s t w list) refl

pub plan_gives : (how : Settings) (s : Store) (t : ℕ) (w : Scratch) (list : List ℕ) → Gives (plan_cases how s t w list) (mark_plan_call how s t w list).answer
unfolding mark_plan_call done
plan_gives how s t w list = settle_gives (plan_cases how s t w list) s w list (plan_ahead how s t w list) refl

pub mark_gives : (s : Store) (t m b : ℕ) → Gives (read_cases s t) (mark_call s t m b).answer
unfolding mark_call settle_mark reported
mark_gives s t m b = go (first_case (read_cases s t)) (attach_of s t m b) (gives_first (read_cases s t))
  where
    go : (c : Option ℕ) (a : Option Anchors) → Gives (read_cases s t) (answer_of c) → Gives (read_cases s t) (settle_mark c a).answer
    go (Some n) a g = g
    go None (Some a) g = g
    go None None g = g

-- "Given exactly if (first that applies, in this order)"
pub answers_exactly : MarkAnswersExactly
answers_exactly how s t w list = (
  exactly (split_cases how s t w list) (mark_split_call how s t w list).answer (split_gives how s t w list),
  exactly (plan_cases how s t w list) (mark_plan_call how s t w list).answer (plan_gives how s t w list),
  λ m b. exactly (read_cases s t) (mark_call s t m b).answer (mark_gives s t m b),
)
