-- The bytes that a compaction reports as moved: those of kept objects whose head is another, at most the data left in use; and the freed room. Assumes nothing.
use Prim.Native.Nat.{ℕ, ◌≤◌}
use mathlib.Core.Path.{◌≡◌, sym, ap}
use mathlib.Core.Bool.{Bool, true, false, cond, not, ◌&&◌}
use native.Mathlib.Omega.{arith}
use lib.Dec.{eqb}
use Rattle.folds.specs.Folds.{sum}
use Rattle.folds.proofs.Tests.{by_test}
use Rattle.folds.proofs.FromTheFront.{sum_same}
use Rattle.folds.proofs.Sums.{sum_less}
use Rattle.store_rules.specs.Store.{Store, head_of, size_of}
use Rattle.store_rules.proofs.Sound.{Fits}
use Rattle.compact_rules.specs.Kept.{renumber, head_then}
use Rattle.compact_rules.specs.Compacted.{compacted, displaced, bytes_moved}
use Rattle.compact_rules.proofs.Kept.{Keeps}
use Rattle.compact_rules.proofs.Objects.{bytes_left_lem, head_kept}

module _ (s : Store) (f : Fits s) (keep : ℕ → Bool) (k : Keeps s keep) where
  -- "kept objects whose place changed (the head)", in the two stores
  pub moved_by_heads : bytes_moved s keep
      ≡ sum (λ i. cond (keep i && not (eqb (head_of (compacted s keep) (renumber keep i)) (head_of s i))) (size_of s i) 0) s.object_count
  unfolding bytes_moved
  moved_by_heads = sum_same _ _ s.object_count (λ i l. by_test (keep i) (λ e. same i e) (λ e. rw e))
    where
      same : (i : ℕ) → keep i ≡ true
          → cond (keep i && not (eqb (head_then s keep i) (head_of s i))) (size_of s i) 0
          ≡ cond (keep i && not (eqb (head_of (compacted s keep) (renumber keep i)) (head_of s i))) (size_of s i) 0
      same i e = ap (λ (h : ℕ). cond (keep i && not (eqb h (head_of s i))) (size_of s i) 0) (sym (head_kept s f keep k i e))

  -- "at most the data left in use"
  pub moved_most : bytes_moved s keep ≤ (compacted s keep).byte_count
  unfolding bytes_moved head_then
  moved_most =
      omega (
        arith,
        bytes_left_lem s f keep,
        sum_less (λ i. cond (displaced s keep i) (size_of s i) 0) (λ j. cond (keep j) (size_of s j) 0) s.object_count
            (λ i l. one (keep i) (not (eqb (head_then s keep i) (head_of s i))) (size_of s i)),
      )
    where
      one : (a b : Bool) (n : ℕ) → cond (a && b) n 0 ≤ cond a n 0
      one true true n = omega arith
      one true false n = omega arith
      one false b n = omega arith
