-- "Given exactly if (first that applies, in this order)": which answer a list of cases gives. Assumes nothing.
use Rattle.std.specs.Prelude.{ℕ, ◌<◌, ◌≡◌, true, false, List, ◌⊎◌, get_or}
use Rattle.call_rules.specs.Answers.{Case}

-- case k of the list; past its end one that never applies
abbrev pub case_at : List Case → ℕ → Case
case_at cs k = get_or cs k (record { applies = false; answer = 0 })

-- case k is the first that applies
pub record First (cs : List Case) (k : ℕ) : Type 0 where
  pub applies : (case_at cs k).applies ≡ true
  pub none_before : (j : ℕ) → j < k → (case_at cs j).applies ≡ false

-- no case applies
abbrev pub NoCase : List Case → Type 0
NoCase cs = (k : ℕ) → (case_at cs k).applies ≡ false

-- the first that applies has answer n
abbrev pub FirstGives : List Case → ℕ → Type 0
FirstGives cs n = (k : ℕ) × First cs k × ((case_at cs k).answer ≡ n)

-- the cases give n: the first that applies has this answer; or none does, and it is 0
abbrev pub Gives : List Case → ℕ → Type 0
Gives cs n = FirstGives cs n ⊎ (NoCase cs × (n ≡ 0))

-- an answer is n exactly if the cases give n
abbrev pub AnswersExactly : List Case → ℕ → Type 0
AnswersExactly cs answer = (n : ℕ) → (answer ≡ n → Gives cs n) × (Gives cs n → answer ≡ n)
