-- What the functions of a pair reading take and answer, beside what document 01 says of one. Assumes nothing.
use Rattle.std.specs.Prelude.{ℕ, cond, List, ◌⊎◌, ℤ}
use Rattle.std.proofs.Common.{inl, inr}
use Rattle.store_rules.specs.Store.{Store}
use Rattle.call_rules.specs.declared.Answer.TheVariants.{UnsortedSets}
use Rattle.call_rules.specs.Answers.{number}
use Rattle.pair_rules.specs.Table.{sets_sorted}
use Rattle.pair_rules.specs.Calls.{PairOutcome}
use Rattle.pair_checks.specs.declared.PairTable.{PairTable}
use Rattle.pair_checks.specs.Checked.{checked_of}

-- for contracts: what a pair reading leaves at exit
abbrev pub pair_outcome : ℕ → ℕ → List ℤ → PairOutcome
pair_outcome n f v = record { answer = n; found = f; values = v }

-- 11, where 1 to 5 have been asked
abbrev pub sorted_by : Store → ℕ → ℕ ⊎ PairTable → ℕ ⊎ PairTable
sorted_by s t (inl n) = inl n
sorted_by s t (inr p) = cond (sets_sorted s t) (inr p) (inl (number UnsortedSets))

-- 1 to 5, and 11
unfoldable pub pair_checked : Store → ℕ → ℕ ⊎ PairTable
pair_checked s t = sorted_by s t (checked_of s t)
