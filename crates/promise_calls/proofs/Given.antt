-- The answer of a call is what its cases give: there is one, and no second. Assumes nothing.
use Rattle.std.specs.Prelude.{Option, Some, None, unwrap_or}
use Prim.Native.Nat.{ℕ, zero, suc, ◌<◌}
use mathlib.Core.Path.{◌≡◌, refl, sym, ap, ◌∙◌}
use mathlib.Core.Bool.{Bool, true, false, cond}
use mathlib.Core.List.{List, [], ◌∷◌}
use mathlib.Core.Logic.{inl, inr, ⊎_elim}
use native.Mathlib.Omega.{arith}
use native.Mathlib.Nat.{not-suc-le-zero}
use Rattle.folds.proofs.Tests.{true_false, either}
use Rattle.store_rules.specs.Store.{Store}
use Rattle.call_rules.specs.Answers.{Case, first_case}
use Rattle.call_rules.specs.Scratch.{Scratch}
use Rattle.call_rules.specs.Outcomes.{Outcome, settle}
use Rattle.promise_calls.specs.Given.{case_at, First, FirstGives, NoCase, Gives, AnswersExactly}

-- ---- none applies

pub none_applies : (cs : List Case) → first_case cs ≡ None → NoCase cs
unfolding first_case
none_applies [] e = λ k. refl
none_applies (c ∷ cs) e = go c.applies refl e (none_applies cs)
  where
    go : (b : Bool) → c.applies ≡ b → cond b (Some c.answer) (first_case cs) ≡ None → (first_case cs ≡ None → NoCase cs) → NoCase (c ∷ cs)
    go true q f ih k = let z : ◌≡◌ {A = ℕ} 0 1 = cc in absurd (omega arith)
    go false q f ih zero = q
    go false q f ih (suc k) = ih f k

pub no_case : (cs : List Case) → NoCase cs → first_case cs ≡ None
unfolding first_case
no_case [] h = refl
no_case (c ∷ cs) h = rw (h 0) (no_case cs (λ k. h (suc k)))

-- ---- one does

pub first_applies : (cs : List Case) (n : ℕ) → first_case cs ≡ Some n → FirstGives cs n
unfolding first_case
first_applies [] n e = let z : ◌≡◌ {A = ℕ} 0 1 = cc in absurd (omega arith)
first_applies (c ∷ cs) n e = go c.applies refl e (first_applies cs n)
  where
    before : (k : ℕ) → c.applies ≡ false → First cs k → (j : ℕ) → j < suc k → (case_at (c ∷ cs) j).applies ≡ false
    before k q f zero l = q
    before k q f (suc j) l = f.none_before j (omega arith)

    go : (b : Bool) → c.applies ≡ b → cond b (Some c.answer) (first_case cs) ≡ Some n → (first_case cs ≡ Some n → FirstGives cs n) → FirstGives (c ∷ cs) n
    go true q f ih = (0, record { applies = q; none_before = λ j l. absurd (not-suc-le-zero l) }, cc)
    go false q f ih = let (k, first, answer) = ih f in (suc k, record { applies = first.applies; none_before = before k q first }, answer)

-- ---- so there is an answer, and no second

-- the answer where the first case gives this, and going ahead answers 0
abbrev pub answer_of : Option ℕ → ℕ
answer_of c = unwrap_or c 0

pub gives_first : (cs : List Case) → Gives cs (answer_of (first_case cs))
gives_first cs = go (first_case cs) refl
  where
    go : (c : Option ℕ) → first_case cs ≡ c → Gives cs (answer_of c)
    go (Some n) e = inl (first_applies cs n e)
    go None e = inr (none_applies cs e, refl)

-- two cases cannot both be the first
one_first : (cs : List Case) (j k : ℕ) → First cs j → First cs k → j ≡ k
one_first cs j k a b =
    ⊎_elim (λ lt. true_false (sym a.applies ∙ b.none_before j lt))
    (λ ge. ⊎_elim (λ lt. true_false (sym b.applies ∙ a.none_before k lt)) (λ le. omega arith) (either k j)) (either j k)

pub gives_one : (cs : List Case) (m n : ℕ) → Gives cs m → Gives cs n → m ≡ n
gives_one cs m n (inl (j, a, p)) (inl (k, b, q)) = sym p ∙ ap (λ (i : ℕ). (case_at cs i).answer) (one_first cs j k a b) ∙ q
gives_one cs m n (inl (j, a, p)) (inr (h, q)) = true_false (sym a.applies ∙ h j)
gives_one cs m n (inr (h, p)) (inl (k, b, q)) = true_false (sym b.applies ∙ h k)
gives_one cs m n (inr (h, p)) (inr (g, q)) = p ∙ sym q

-- an answer that the cases give is n exactly if they give n
pub exactly : (cs : List Case) (answer : ℕ) → Gives cs answer → AnswersExactly cs answer
exactly cs answer g n = (λ e. rw e at g, λ h. gives_one cs answer n g h)

-- ---- of any call

-- where going ahead answers 0
pub settle_gives : (cs : List Case) (s : Store) (w : Scratch) (list : List ℕ) (o : Outcome) → o.answer ≡ 0
    → Gives cs (settle (first_case cs) s list w o).answer
unfolding settle
settle_gives cs s w list o z = go (first_case cs) (gives_first cs)
  where
    go : (c : Option ℕ) → Gives cs (answer_of c) → Gives cs (settle c s list w o).answer
    go (Some n) g = g
    go None g = rw z g
