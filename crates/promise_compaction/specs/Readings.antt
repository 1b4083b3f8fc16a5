-- "Every pair answer from kept tables is the same, with devices under their new numbers", and so with anchors. Assumes nothing.
use Rattle.std.specs.Prelude.{ℕ, ◌≡◌, true, List}
use Rattle.store_rules.specs.Store.{Store}
use Rattle.compact_rules.specs.Kept.{kept}
use Rattle.pair_rules.specs.Calls.{pair_call}
use Rattle.pair_rules.specs.Renumbered as pair_answers
use Rattle.mark_rules.specs.Calls.{mark_call}
use Rattle.mark_rules.specs.Renumbered as mark_answers
use Rattle.lookup_rules.specs.Applied.{applied}
use Rattle.promise_compaction.specs.Kept.{new_number}

-- of any two glyphs, answers and refusals alike
pub record ReadingsKept (s : Store) (roots : List ℕ) (left : Store) : Type 0 where
  pub pairs : (t : ℕ) → kept s roots t ≡ true → (a b : ℕ) → pair_call left (new_number s roots t) a b ≡ pair_answers.outcome_then (new_number s roots) (pair_call s t a b)
  -- and so of any lookup
  pub lookups : (p : ℕ) → kept s roots p ≡ true → (a b : ℕ) → applied left (new_number s roots p) a b ≡ pair_answers.outcome_then (new_number s roots) (applied s p a b)
  pub marks : (t : ℕ) → kept s roots t ≡ true → (m b : ℕ) → mark_call left (new_number s roots t) m b ≡ mark_answers.outcome_then (new_number s roots) (mark_call s t m b)
