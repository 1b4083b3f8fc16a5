-- Laws of what can be reached: from more rows, from the same and from none, and that the bytes are of no matter. Assumes nothing.
use Prim.Native.Nat.{ℕ, zero, suc, ◌<◌}
use mathlib.Core.Bool.{Bool, true, false, cond}
use mathlib.Core.List.{List}
use mathlib.Core.Path.{◌≡◌, refl, sym, ap, ◌∙◌}
use lib.ListN.{get_or, set, replicate}
use Rattle.folds.proofs.Agree.{both_ways}
use Rattle.folds.proofs.Tally.{tally_same}
use Rattle.folds.proofs.Tests.{by_test, true_false}
use Rattle.store_rules.specs.Store.{Store, lent, link_at, is_offset, parent_of, child_of, size_of}
use Rattle.store_rules.specs.Reach.{marked, due, once, grow, reached, reach_size, Reach}
use Rattle.store_rules.proofs.Sound.{Fits}
use Rattle.store_rules.proofs.Shaped.{of_offset, of_parent}
use Rattle.store_rules.proofs.Reached.{reached_only, reached_all}

module _ {s : Store} where
  pub reach_more : {from more : ℕ → Bool} → ((k : ℕ) → k < s.link_count → from k ≡ true → more k ≡ true) → {i : ℕ} → Reach s from i → Reach s more i
  reach_more f (Reach.seed k h a e) = Reach.seed k h (f k h a) e
  reach_more f (Reach.step r k h p e) = Reach.step (reach_more f r) k h p e

  pub reach_none : {from : ℕ → Bool} → ((k : ℕ) → k < s.link_count → from k ≡ false) → {i : ℕ} → Reach s from i → ⊥
  reach_none f (Reach.seed k h a e) = true_false (sym a ∙ f k h)
  reach_none f (Reach.step r k h p e) = reach_none f r

  -- what holds for the children of the rows to start from, and goes from parent to child, holds for all that can be reached
  pub reach_all : {from : ℕ → Bool} (P : ℕ → Type 0) → ((k : ℕ) → k < s.link_count → from k ≡ true → P (child_of s k)) → ((k : ℕ) → k < s.link_count → is_offset (link_at s k) ≡ true → P (parent_of s k) → P (child_of s k)) → {i : ℕ} → Reach s from i → P i
  reach_all P f g (Reach.seed k h a e) = rw e at (f k h a)
  reach_all P f g (Reach.step {i} r k h p e) = rw e at (g k h (of_offset i (link_at s k) p) (rw (of_parent i (link_at s k) p) (reach_all P f g r)))

-- ---- as marks, and as a size

module _ (s : Store) (f : Fits s) where
  pub reached_more : (from more : ℕ → Bool) → ((k : ℕ) → k < s.link_count → from k ≡ true → more k ≡ true) → (i : ℕ) → i < s.object_count → marked (reached s from) i ≡ true → marked (reached s more) i ≡ true
  reached_more from more h i l t = reached_all s more f (reach_more h (reached_only s from f i l t))

  pub reached_same : (from same : ℕ → Bool) → ((k : ℕ) → k < s.link_count → from k ≡ same k) → (i : ℕ) → i < s.object_count → marked (reached s from) i ≡ marked (reached s same) i
  reached_same from same h i l =
      both_ways (marked (reached s from) i) (marked (reached s same) i)
      (reached_more from same (λ k m a. sym (h k m) ∙ a) i l)
      (reached_more same from (λ k m a. h k m ∙ a) i l)

  pub size_same : (from same : ℕ → Bool) → ((k : ℕ) → k < s.link_count → from k ≡ same k) → reach_size s from ≡ reach_size s same
  unfolding reach_size
  size_same from same h = tally_same (size_of s) (marked (reached s from)) (marked (reached s same)) s.object_count (reached_same from same h)

  pub reached_none : (from : ℕ → Bool) → ((k : ℕ) → k < s.link_count → from k ≡ false) → (i : ℕ) → i < s.object_count → marked (reached s from) i ≡ false
  reached_none from h i l = by_test (marked (reached s from) i) (λ t. absurd (reach_none h (reached_only s from f i l t))) (λ t. t)

-- ---- whatever the bytes

module _ (b b' o l c : List ℕ) (from : ℕ → Bool) where
  once_bytes : (w : List ℕ) (k : ℕ) → once (lent b o l c) from w k ≡ once (lent b' o l c) from w k
  unfolding once due
  once_bytes w zero = refl
  once_bytes w (suc k) = ap (λ (x : List ℕ). cond (due (lent b o l c) from w k) (set w (child_of (lent b o l c) k) 1) x) (once_bytes w k)

  grow_bytes : (n : ℕ) (w : List ℕ) → grow (lent b o l c) from n w ≡ grow (lent b' o l c) from n w
  unfolding grow
  grow_bytes zero w = refl
  grow_bytes (suc n) w = ap (grow (lent b o l c) from n) (once_bytes w (get_or c 2 0)) ∙ grow_bytes n (once (lent b' o l c) from w (get_or c 2 0))

  pub reached_bytes : reached (lent b o l c) from ≡ reached (lent b' o l c) from
  unfolding reached
  reached_bytes = grow_bytes (get_or c 1 0) (replicate (get_or c 1 0) 0)

  pub size_bytes : reach_size (lent b o l c) from ≡ reach_size (lent b' o l c) from
  unfolding reach_size
  size_bytes = tally_same (size_of (lent b o l c)) (marked (reached (lent b o l c) from)) (marked (reached (lent b' o l c) from)) (get_or c 1 0) (λ i h. ap (λ (r : List ℕ). marked r i) reached_bytes)
