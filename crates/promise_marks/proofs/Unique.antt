-- No second outcome satisfies the contract of an exported function, nor what is promised of it. Assumes nothing.
use Prim.Native.Nat.{ℕ}
use mathlib.Core.Path.{◌≡◌, refl, sym, ◌∙◌}
use mathlib.Core.List.{List, [], ◌∷◌}
use mathlib.Core.Logic.{⊎_elim}
use Rattle.store_rules.specs.Store.{Store}
use Rattle.call_rules.specs.declared.Settings.{Settings}
use Rattle.call_rules.specs.Scratch.{Scratch}
use Rattle.call_rules.specs.Outcomes.{Outcome}
use Rattle.mark_rules.specs.Reads.{Reads}
use Rattle.mark_rules.specs.Calls.{MarkOutcome, mark_split_call, mark_plan_call, mark_call, split_cases, plan_cases, read_cases}
use Rattle.mark_rules.proofs.Checks.{no_case_reads, reads_no_case}
use Rattle.promise_calls.specs.Exits.{Exit, outcome_of, Same}
use Rattle.promise_calls.proofs.Given.{gives_one}
use Rattle.promise_calls.proofs.Unique.{one_exit}
use Rattle.promise_calls.proofs.Keeps.{decided, call_decided}
use Rattle.promise_marks.specs.Exactly.{MaySplit, MayPlan}
use Rattle.promise_marks.specs.Calls.{SplitLeaves, SplitKeeps, PlanLeaves, PlanKeeps, MarkKeeps}
use Rattle.promise_marks.proofs.Exactly.{no_case_splits, splits_no_case, no_case_plans, plans_no_case}
use Rattle.promise_marks.proofs.Calls.{split_keeps, plan_keeps, mark_keeps}

-- ---- the contracts

module _ (how : Settings) (s : Store) (t : ℕ) (w : Scratch) (list : List ℕ) (x y : Exit) where
  pub one_split : outcome_of x ≡ mark_split_call how s t w list → outcome_of y ≡ mark_split_call how s t w list → Same x y
  one_split p q = one_exit x y (mark_split_call how s t w list) p q

  pub one_plan : outcome_of x ≡ mark_plan_call how s t w list → outcome_of y ≡ mark_plan_call how s t w list → Same x y
  one_plan p q = one_exit x y (mark_plan_call how s t w list) p q

-- a reading's outcome is its answer, whether there is an attachment, and the two numbers, all that the function writes
pub one_reading : (s : Store) (t m b : ℕ) (x y : MarkOutcome) → x ≡ mark_call s t m b → y ≡ mark_call s t m b → x ≡ y
one_reading s t m b x y p q = p ∙ sym q

-- ---- what is promised decides the outcome

pub split_decided : (how : Settings) (s : Store) (t : ℕ) (w : Scratch) (list : List ℕ) (x y : Outcome) → SplitKeeps how s t w list x → SplitKeeps how s t w list y → x ≡ y
split_decided how s t w list =
    call_decided (split_cases how s t w list) (MaySplit how s t w list) (no_case_splits how s t w list) (splits_no_case how s t w list) (SplitLeaves how s t list) s w list
    (λ x y a b. (a.count ∙ sym b.count, a.written ∙ sym b.written, a.tables ∙ sym b.tables))

pub plan_decided : (how : Settings) (s : Store) (t : ℕ) (w : Scratch) (list : List ℕ) (x y : Outcome) → PlanKeeps how s t w list x → PlanKeeps how s t w list y → x ≡ y
plan_decided how s t w list =
    call_decided (plan_cases how s t w list) (MayPlan how s t w list) (no_case_plans how s t w list) (plans_no_case how s t w list) (PlanLeaves how s t list) s w list
    (λ x y a b. (a.count ∙ sym b.count, a.reads ∙ sym b.reads, a.places ∙ sym b.places))

pub mark_decided : (s : Store) (t m b : ℕ) (x y : MarkOutcome) → MarkKeeps s t m b x → MarkKeeps s t m b y → x ≡ y
mark_decided s t m b x y p q =
    ⊎_elim (λ r. p.attachments r ∙ sym (q.attachments r)) (λ n. neither (p.none n) (q.none n))
    (decided (read_cases s t) (Reads s t) (no_case_reads s t) (reads_no_case s t))
  where
    answer : x.answer ≡ y.answer
    answer = gives_one (read_cases s t) x.answer y.answer p.answers q.answers

    neither : (x.found ≡ 0) × (x.anchors ≡ 0 ∷ 0 ∷ []) → (y.found ≡ 0) × (y.anchors ≡ 0 ∷ 0 ∷ []) → x ≡ y
    neither (f, v) (g, u) =
        let found : x.found ≡ y.found = f ∙ sym g in
        let anchors : x.anchors ≡ y.anchors = v ∙ sym u in
        λ i. record { answer = answer i; found = found i; anchors = anchors i }

-- so an outcome that keeps what is promised is that of `mark_split_call`
pub split_only : (how : Settings) (s : Store) (t : ℕ) (w : Scratch) (list : List ℕ) (o : Outcome) → SplitKeeps how s t w list o → o ≡ mark_split_call how s t w list
split_only how s t w list o k = split_decided how s t w list o (mark_split_call how s t w list) k (split_keeps how s t w list (mark_split_call how s t w list) refl)

pub plan_only : (how : Settings) (s : Store) (t : ℕ) (w : Scratch) (list : List ℕ) (o : Outcome) → PlanKeeps how s t w list o → o ≡ mark_plan_call how s t w list
plan_only how s t w list o k = plan_decided how s t w list o (mark_plan_call how s t w list) k (plan_keeps how s t w list (mark_plan_call how s t w list) refl)

pub mark_only : (s : Store) (t m b : ℕ) (o : MarkOutcome) → MarkKeeps s t m b o → o ≡ mark_call s t m b
mark_only s t m b o k = mark_decided s t m b o (mark_call s t m b) k (mark_keeps s t m b (mark_call s t m b) refl)
