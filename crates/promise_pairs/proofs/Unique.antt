-- No second outcome satisfies the contract of an exported function, nor what is promised of it. Assumes nothing.
use Prim.Native.Nat.{ℕ}
use mathlib.Core.Path.{◌≡◌, refl, sym, ◌∙◌}
use mathlib.Core.List.{List}
use mathlib.Core.Logic.{⊎_elim}
use lib.ListN.{replicate}
use lib.IntN.{pos}
use Rattle.store_rules.specs.Store.{Store}
use Rattle.call_rules.specs.declared.Settings.{Settings}
use Rattle.call_rules.specs.Scratch.{Scratch}
use Rattle.call_rules.specs.Outcomes.{Outcome}
use Rattle.pair_rules.specs.Calls.{PairOutcome, split_call, plan_call, pair_call, split_cases, plan_cases, pair_cases}
use Rattle.promise_calls.specs.Exits.{Exit, outcome_of, Same}
use Rattle.promise_calls.specs.Unchanged.{Octets}
use Rattle.promise_calls.proofs.Given.{gives_one}
use Rattle.promise_calls.proofs.Unique.{one_exit}
use Rattle.promise_calls.proofs.Keeps.{decided, call_decided}
use Rattle.pair_rules.specs.Reads.{ReadsPairs}
use Rattle.pair_rules.proofs.SortedSets.{no_case_pairs, pairs_no_case}
use Rattle.promise_pairs.specs.Exactly.{MaySplit, MayPlan}
use Rattle.promise_pairs.specs.Calls.{SplitLeaves, SplitKeeps, PlanLeaves, PlanKeeps, PairKeeps}
use Rattle.promise_pairs.proofs.Exactly.{no_case_splits, splits_no_case, no_case_plans, plans_no_case}
use Rattle.promise_pairs.proofs.Calls.{split_keeps, plan_keeps, pair_keeps}

-- ---- the contracts

module _ (how : Settings) (s : Store) (t : ℕ) (w : Scratch) (list : List ℕ) (x y : Exit) where
  pub one_split : outcome_of x ≡ split_call how s t w list → outcome_of y ≡ split_call how s t w list → Same x y
  one_split p q = one_exit x y (split_call how s t w list) p q

  pub one_plan : outcome_of x ≡ plan_call how s t w list → outcome_of y ≡ plan_call how s t w list → Same x y
  one_plan p q = one_exit x y (plan_call how s t w list) p q

-- a pair reading's outcome is its answer, whether there is a pair, and the sixteen numbers, all that the function writes
pub one_reading : (s : Store) (t a b : ℕ) (x y : PairOutcome) → x ≡ pair_call s t a b → y ≡ pair_call s t a b → x ≡ y
one_reading s t a b x y p q = p ∙ sym q

-- ---- what is promised decides the outcome

pub split_decided : (how : Settings) (s : Store) (t : ℕ) (w : Scratch) (list : List ℕ) (x y : Outcome) → SplitKeeps how s t w list x → SplitKeeps how s t w list y → x ≡ y
split_decided how s t w list =
    call_decided (split_cases how s t w list) (MaySplit how s t w list) (no_case_splits how s t w list) (splits_no_case how s t w list) (SplitLeaves how s t list) s w list
    (λ x y a b. (a.count ∙ sym b.count, a.written ∙ sym b.written, a.tables ∙ sym b.tables))

pub plan_decided : (how : Settings) (s : Store) (t : ℕ) (w : Scratch) (list : List ℕ) (x y : Outcome) → PlanKeeps how s t w list x → PlanKeeps how s t w list y → x ≡ y
plan_decided how s t w list =
    call_decided (plan_cases how s t w list) (MayPlan how s t w list) (no_case_plans how s t w list) (plans_no_case how s t w list) (PlanLeaves how s t list) s w list
    (λ x y a b. (a.count ∙ sym b.count, a.reads ∙ sym b.reads, a.places ∙ sym b.places))

pub pair_decided : (s : Store) (t a b : ℕ) (x y : PairOutcome) → PairKeeps s t a b x → PairKeeps s t a b y → x ≡ y
pair_decided s t a b x y p q = ⊎_elim (λ r. p.pairs r ∙ sym (q.pairs r)) (λ n. neither (p.none n) (q.none n)) (decided (pair_cases s t) (ReadsPairs s t) (no_case_pairs s t) (pairs_no_case s t))
  where
    answer : x.answer ≡ y.answer
    answer = gives_one (pair_cases s t) x.answer y.answer p.answers q.answers

    neither : (x.found ≡ 0) × (x.values ≡ replicate 16 (pos 0)) → (y.found ≡ 0) × (y.values ≡ replicate 16 (pos 0)) → x ≡ y
    neither (f, v) (g, u) =
        let found : x.found ≡ y.found = f ∙ sym g in
        let values : x.values ≡ y.values = v ∙ sym u in
        λ i. record { answer = answer i; found = found i; values = values i }

-- so an outcome that keeps what is promised is that of `split_call`
pub split_only : (how : Settings) (s : Store) (t : ℕ) (w : Scratch) (list : List ℕ) (o : Outcome) → Octets s → SplitKeeps how s t w list o → o ≡ split_call how s t w list
split_only how s t w list o bytes k = split_decided how s t w list o (split_call how s t w list) k (split_keeps how s t w list (split_call how s t w list) bytes refl)

pub plan_only : (how : Settings) (s : Store) (t : ℕ) (w : Scratch) (list : List ℕ) (o : Outcome) → PlanKeeps how s t w list o → o ≡ plan_call how s t w list
plan_only how s t w list o k = plan_decided how s t w list o (plan_call how s t w list) k (plan_keeps how s t w list (plan_call how s t w list) refl)

pub pair_only : (s : Store) (t a b : ℕ) (o : PairOutcome) → PairKeeps s t a b o → o ≡ pair_call s t a b
pair_only s t a b o k = pair_decided s t a b o (pair_call s t a b) k (pair_keeps s t a b (pair_call s t a b) refl)
