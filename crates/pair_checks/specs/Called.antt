-- What the checks say that need no scratch but its lengths: 1 to 6, and the slots of 7. Assumes nothing.
use Rattle.std.specs.Prelude.{ℕ, cond, not, ◌⊎◌}
use Rattle.std.proofs.Common.{inl, inr}
use Rattle.call_rules.specs.declared.Answer.TheVariants.{ShortScratch, BadLinks}
use Rattle.store_rules.specs.Store.{Store}
use Rattle.pair_rules.specs.Table.{all_at_slots}
use Rattle.pair_checks.specs.declared.PairTable.{PairTable}
use Rattle.pair_checks.specs.Checked.{checked_of}
use Rattle.call_rules.specs.declared.Lengths.{Lengths}
use Rattle.call_rules.specs.Answers.{number}
use Rattle.call_rules.specs.Scratch.{lengths_short}

-- 6 and the slots of 7, for a table that is open
unfoldable pub lent_by : Store → ℕ → Lengths → PairTable → ℕ ⊎ PairTable
lent_by s t n p =
    cond (lengths_short n s.object_count p.glyphs p.layout.count) (inl (number ShortScratch))
    (cond (not (all_at_slots s t)) (inl (number BadLinks)) (inr p))

-- the same, where 1 to 5 have been asked
abbrev pub called_by : Store → ℕ → Lengths → ℕ ⊎ PairTable → ℕ ⊎ PairTable
called_by s t n (inl a) = inl a
called_by s t n (inr p) = lent_by s t n p

-- 1 to 6, and the slots of 7
unfoldable pub called_of : Store → ℕ → Lengths → ℕ ⊎ PairTable
called_of s t n = called_by s t n (checked_of s t)
