-- The call by what its checks decide, and the roots one by one. Assumes nothing.
use Rattle.std.specs.Prelude.{Option, None, Result, Err, ⊤}
use Rattle.std.specs.Bool.{MatchBool}
use Rattle.std.specs.List.{AllWithin, HoldsAt}
use Prim.Native.Nat.{ℕ, ◌<◌, ◌≤◌}
use mathlib.Core.Path.{◌≡◌, sym, ap, ◌∙◌}
use mathlib.Core.Bool.{Bool, true, false}
use mathlib.Core.List.{List}
use native.Mathlib.Omega.{arith}
use lib.ListN.{length, get_or, replicate}
use Rattle.folds.proofs.Tests.{by_test}
use Rattle.folds.proofs.Each.{each_at, each_of}
use Rattle.store_rules.specs.Store.{Store}
use Rattle.call_rules.specs.Answers.{number, first_case, refusal}
use Rattle.call_rules.specs.declared.Answer.{Answer}
use Rattle.compact_rules.specs.Kept.{kept}
use Rattle.compact_rules.specs.Compacted.{compacted, bytes_moved, roots_then}
use Rattle.compact_rules.specs.Calls.{CompactOutcome, compact_outcome, roots_used, compact_cases, compact_done, settle_compact, compaction_call}
use Rattle.compact_rules.proofs.Kept.{roots_each, each_used}

-- ---- the call

module _ (s : Store) (roots walk : List ℕ) where
  pub refused_call : {r : Result ⊤ Answer} {a : Answer} {n : ℕ} {z : List ℕ} → first_case (compact_cases s roots walk) ≡ refusal r → r ≡ Err a → n ≡ number a
      → z ≡ replicate (length walk) 0 → compact_outcome n 0 s roots z ≡ compaction_call s roots walk
  unfolding compaction_call settle_compact
  refused_call e y i h =
      (λ k. compact_outcome (i k) 0 s roots (h k))
      ∙ sym (ap (λ (o : Option ℕ). settle_compact o s roots walk (compact_done s (kept s roots) roots walk)) (e ∙ ap refusal y))

  pub done_call : (w : List ℕ) (o : CompactOutcome) → first_case (compact_cases s roots walk) ≡ None → length w ≡ length walk
      → o ≡ compact_done s (kept s roots) roots w → o ≡ compaction_call s roots walk
  unfolding compaction_call settle_compact compact_done
  done_call w o e n h =
      h
      ∙ ap (λ (m : ℕ). compact_outcome 0 (bytes_moved s (kept s roots)) (compacted s (kept s roots)) (roots_then (kept s roots) roots) (replicate m 0)) n
      ∙ sym (ap (λ (c : Option ℕ). settle_compact c s roots walk (compact_done s (kept s roots) roots walk)) e)

-- ---- 2, root by root

module _ (n : ℕ) (roots : List ℕ) where
  pub root_low : roots_used n roots ≡ true → (k : ℕ) → k < length roots → get_or roots k 0 < n
  root_low h k l = each_at (λ r. r < n) roots (roots_each n roots h) k l 0

  pub all-low : ((k : ℕ) → k < length roots → get_or roots k 0 < n) → true ≡ roots_used n roots
  all-low h = sym (each_used n roots (each_of (λ r. r < n) roots 0 h))

  pub one_high : (k : ℕ) → k < length roots → n ≤ get_or roots k 0 → false ≡ roots_used n roots
  one_high k l h = by_test (roots_used n roots) (λ y. absurd (omega (arith, root_low y k l))) (λ no-root. sym no-root)

  -- what the test of each of them says
  pub roots_told : (r : Bool) → MatchBool r (AllWithin (λ x. x < n) roots 0 (length roots)) ((k : ℕ) × (k < length roots) × HoldsAt (λ x. n ≤ x) roots k)
      → r ≡ roots_used n roots
  roots_told true h = all-low (λ k l. h k 0 (omega arith) l)
  roots_told false (k, l, h) = one_high k l (h 0)
